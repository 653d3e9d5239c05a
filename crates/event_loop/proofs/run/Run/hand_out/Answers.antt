use Rattle.std.proofs.Common.{◌∙◌, ap, arith}
use Rattle.std.proofs.lemmas.List.{with_items_is}
use Rattle.std.proofs.lemmas.Result.{err_from_is_err_and, on_ok_weaker}
use Rattle.event_loop.specs.Ending.{HandsOut, HandoutEnded}
use Rattle.event_loop.proofs.Runs.{rose_on, served_since}
use Rattle.event_loop.specs.Accounts.{open_at}
use Rattle.event_loop.proofs.run.Run.hand_out.Goals as goal

pub returns-in_err-goes_on : goal.returns-in_err-goes_on
returns-in_err-goes_on g c =
    let p = err_from_is_err_and c.from_residual.result c.from_residual.ensures.1 in record {
      formula = c.receive_next.ensures.formula;
      most = omega (arith, c.receive_next.ensures.most, c.receive_next.ensures.arrivals);
      each = c.receive_next.ensures.each;
      handed = rw p.1 tt;
    }

pub returns-then-not-goes_on : goal.returns-then-not-goes_on
returns-then-not-goes_on g c = record {
  formula = c.receive_next.ensures.formula;
  most = omega (arith, c.receive_next.ensures.most, c.receive_next.ensures.arrivals);
  each = c.receive_next.ensures.each;
  handed = HandsOut.listens c.receive_next.ensures.one (HandoutEnded.over (c.in_ok-goes_on.ensures.over c.if-not-goes_on.true));
}

pub returns : goal.returns
returns g c =
    let one = c.in_ok-goes_on.ensures.arrived c.if-not-goes_on.false in
    let listened = with_items_is c.receive_next.new.self.slots c.restart_timeouts.new.slots (omega (arith, c.restart_timeouts.auto.slots, c.deref_mut.ensures.len)) in
    record {
      formula = c.hand_out_rounds.ensures.formula ∙ c.receive_next.ensures.formula;
      most = omega (arith, one, c.hand_out_rounds.ensures.most, c.receive_next.ensures.most);
      each = λ p.
          let first = c.receive_next.ensures.each p in
          let began = ap (λ slots. open_at slots p) c.deref_mut.ensures.value in
          let handled = c.restart_timeouts.ensures.open p in
          let left = ap (λ slots. open_at slots p) listened in
          let rest = c.hand_out_rounds.ensures.each p in
          omega (arith, first, began, handled, left, rest);
      handed = on_ok_weaker c.hand_out_rounds.result
          (λ ended. HandsOut.listens (rose_on _ _ _ _ c.receive_next.ensures.one c.hand_out_rounds.ensures.rises) (served_since _ _ _ _ _ c.receive_next.ensures.arrivals ended))
          c.hand_out_rounds.ensures.ended;
    }
