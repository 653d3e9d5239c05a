use Rattle.std.proofs.Common.{◌∙◌, arith}
use Rattle.std.proofs.lemmas.Result.{err_from_is_err_and}
use Rattle.event_loop.proofs.Runs.{closes_then, rose_on}
use Rattle.event_loop.proofs.run.Run.round.Goals as goal

pub returns-in_err-goes_on : goal.returns-in_err-goes_on
returns-in_err-goes_on g c =
    let p = err_from_is_err_and c.from_residual.result c.from_residual.ensures.1 in record {
      formula = c.in_err-goes_on.ensures.formula;
      one = c.in_err-goes_on.ensures.one;
      most = omega (arith, c.in_err-goes_on.ensures.most);
      rises = c.in_err-goes_on.ensures.rises;
      arrivals = c.in_err-goes_on.ensures.arrivals;
      arrived = rw p.1 tt;
      each = c.in_err-goes_on.ensures.each;
      first = λ none. (c.in_err-goes_on.ensures.first none).0;
      apart = c.in_err-goes_on.ensures.apart;
      told = rw p.1 tt;
      over = rw p.1 tt;
      handled = rw p.1 tt;
    }

pub returns-in_err-handle_waiting : goal.returns-in_err-handle_waiting
returns-in_err-handle_waiting g c =
    let p = err_from_is_err_and c.from_residual-in_err-handle_waiting.result c.from_residual-in_err-handle_waiting.ensures.1 in record {
      formula = c.handle_waiting.ensures.formula ∙ c.in_ok-goes_on.ensures.formula;
      one = rose_on _ _ _ _ c.in_ok-goes_on.ensures.one c.handle_waiting.ensures.spends.rises;
      most = omega (arith, c.in_ok-goes_on.ensures.most, c.handle_waiting.ensures.spends.most);
      rises = omega (arith, c.in_ok-goes_on.ensures.rises, c.handle_waiting.ensures.spends.rises);
      arrivals = omega (arith, c.in_ok-goes_on.ensures.arrivals, c.handle_waiting.ensures.spends.arrivals);
      arrived = rw p.1 tt;
      each = closes_then _ _ _ _ _ _ _ _ _ c.in_ok-goes_on.ensures.each c.handle_waiting.ensures.spends.begun c.handle_waiting.ensures.each;
      first = λ none.
          let handled = c.in_ok-goes_on.ensures.first none in
          c.handle_waiting.ensures.fresh handled.1 ∙ handled.0;
      apart = λ apart. c.handle_waiting.ensures.apart (c.in_ok-goes_on.ensures.apart apart);
      told = rw p.1 tt;
      over = rw p.1 tt;
      handled = rw p.1 tt;
    }

pub returns : goal.returns
returns g c = record {
  formula = c.handle_waiting.ensures.formula ∙ c.in_ok-goes_on.ensures.formula;
  one = rose_on _ _ _ _ c.in_ok-goes_on.ensures.one c.handle_waiting.ensures.spends.rises;
  most = omega (arith, c.in_ok-goes_on.ensures.most, c.handle_waiting.ensures.spends.most);
  rises = omega (arith, c.in_ok-goes_on.ensures.rises, c.handle_waiting.ensures.spends.rises);
  arrivals = omega (arith, c.in_ok-goes_on.ensures.arrivals, c.handle_waiting.ensures.spends.arrivals);
  arrived = λ goes_on. c.handle_waiting.ensures.spends.arrivals ∙ c.in_ok-goes_on.ensures.arrived goes_on;
  each = closes_then _ _ _ _ _ _ _ _ _ c.in_ok-goes_on.ensures.each c.handle_waiting.ensures.spends.begun c.handle_waiting.ensures.each;
  first = λ none.
      let handled = c.in_ok-goes_on.ensures.first none in
      c.handle_waiting.ensures.fresh handled.1 ∙ handled.0;
  apart = λ apart. c.handle_waiting.ensures.apart (c.in_ok-goes_on.ensures.apart apart);
  told = c.in_ok-handle_waiting.ensures.told;
  over = λ ends. c.handle_waiting.ensures.spends.over ∙ c.in_ok-goes_on.ensures.over ends;
  handled = (c.receive_next.new.self, c.in_ok-goes_on.ensures.handled);
}
