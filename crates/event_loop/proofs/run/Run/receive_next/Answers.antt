use Rattle.std.proofs.Common.{◌∙◌, arith, sym}
use Rattle.std.proofs.lemmas.Result.{err_from_is_err_and}
use Rattle.event_loop.proofs.Runs.{arrived_by, most_one, over_by, rises_one, rose_one}
use Rattle.event_loop.proofs.run.Run.receive_next.Goals as goal

pub returns-in_err-handle_event : goal.returns-in_err-handle_event
returns-in_err-handle_event g c =
    let p = err_from_is_err_and c.from_residual.result c.from_residual.ensures.1 in
    let came = c.receive_any-arrival.ensures in record {
      formula = c.handle_event.ensures.formula;
      one = rose_one _ _ _ came.calls c.handle_event.ensures.spends.rises;
      most = most_one _ _ _ came.calls c.handle_event.ensures.spends.most;
      rises = rises_one _ _ _ came.calls c.handle_event.ensures.spends.rises;
      arrivals = omega (arith, c.handle_event.ensures.spends.arrivals, came.arrivals);
      arrived = rw p.1 tt;
      each = λ p.
          let links = came.links p in
          let refusals = came.refusals p in
          let begun = c.handle_event.ensures.spends.begun p in
          let each = c.handle_event.ensures.each p in
          omega (arith, links, refusals, begun, each);
      first = c.handle_event.ensures.first;
      apart = c.handle_event.ensures.apart;
      over = rw p.1 tt;
      handled = rw p.1 tt;
    }

pub returns : goal.returns
returns g c =
    let came = c.receive_any-arrival.ensures in
    let event = c.receive_any-arrival.result.event in record {
      formula = c.handle_event.ensures.formula;
      one = rose_one _ _ _ came.calls c.handle_event.ensures.spends.rises;
      most = most_one _ _ _ came.calls c.handle_event.ensures.spends.most;
      rises = rises_one _ _ _ came.calls c.handle_event.ensures.spends.rises;
      arrivals = omega (arith, c.handle_event.ensures.spends.arrivals, came.arrivals);
      arrived = λ goes_on.
          let counted = arrived_by event (sym c.may_go_on.ensures ∙ goes_on) in
          omega (arith, counted, c.handle_event.ensures.spends.arrivals, came.arrivals);
      each = λ p.
          let links = came.links p in
          let refusals = came.refusals p in
          let begun = c.handle_event.ensures.spends.begun p in
          let each = c.handle_event.ensures.each p in
          omega (arith, links, refusals, begun, each);
      first = c.handle_event.ensures.first;
      apart = c.handle_event.ensures.apart;
      over = λ ends. c.handle_event.ensures.spends.over ∙ (came.ended ∙ over_by event (sym c.may_go_on.ensures ∙ ends));
      handled = (event, c.receive_any-arrival.new.room, c.receive_any-arrival.new.self, came.came, c.in_ok-handle_event.ensures.handled);
    }
