use Rattle.std.proofs.Common.{◌∙◌, arith, inr, sym}
use Rattle.std.proofs.lemmas.Result.{err_from_is_err_and}
use Rattle.event_loop.specs.Ending.{HasEnded}
use Rattle.event_loop.proofs.Polls.{decided_none_idle}
use Rattle.event_loop.proofs.Runs.{after_turn, at_end, closes_on, over_ends, over_later}
use Rattle.event_loop.proofs.run.Run.go_on.Goals as goal

pub returns-then-is_over : goal.returns-then-is_over
returns-then-is_over g c = record {
  formula = c.loop.invariant.0;
  used = over_later _ _ _ _ _ c.is_over.result _ c.loop.invariant.3 c.is_over.ensures c.if-is_over.true;
  most = omega (arith, c.loop.invariant.1);
  each = c.loop.invariant.2;
  apart = c.loop.invariant.4;
  ended = over_ends _ _ _ c.loop.self (sym c.is_over.ensures ∙ c.if-is_over.true);
  none_idle = c.loop.invariant.6;
}

pub returns-in_err-goes_on : goal.returns-in_err-goes_on
returns-in_err-goes_on g c =
    let p = err_from_is_err_and c.from_residual.result c.from_residual.ensures.1 in record {
      formula = c.turn.ensures.formula ∙ c.loop.invariant.0;
      used = rw p.1 tt;
      most = omega (arith, c.turn.ensures.most, c.turn.ensures.arrivals, c.loop.invariant.1);
      each = closes_on _ _ _ _ _ _ _ _ _ c.loop.invariant.2 c.turn.ensures.each;
      apart = c.turn.ensures.apart c.loop.invariant.4;
      ended = rw p.1 tt;
      none_idle = rw p.1 tt;
    }

pub returns-then-not-goes_on : goal.returns-then-not-goes_on
returns-then-not-goes_on g c = record {
  formula = c.turn.ensures.formula ∙ c.loop.invariant.0;
  used = after_turn _ _ _ _ _ _ _ _ c.loop.invariant.3 c.turn.ensures.one c.turn.ensures.rises c.turn.ensures.first;
  most = omega (arith, c.turn.ensures.most, c.turn.ensures.arrivals, c.loop.invariant.1);
  each = closes_on _ _ _ _ _ _ _ _ _ c.loop.invariant.2 c.turn.ensures.each;
  apart = c.turn.ensures.apart c.loop.invariant.4;
  ended = HasEnded.over (c.in_ok-goes_on.ensures.over c.if-not-goes_on.true);
  none_idle = decided_none_idle _ _ c.in_ok-goes_on.ensures.told;
}

pub returns-then-is_deserted : goal.returns-then-is_deserted
returns-then-is_deserted g c = record {
  formula = c.turn.ensures.formula ∙ c.loop.invariant.0;
  used = after_turn _ _ _ _ _ _ _ _ c.loop.invariant.3 c.turn.ensures.one c.turn.ensures.rises c.turn.ensures.first;
  most = omega (arith, c.turn.ensures.most, c.turn.ensures.arrivals, c.loop.invariant.1);
  each = closes_on _ _ _ _ _ _ _ _ _ c.loop.invariant.2 c.turn.ensures.each;
  apart = c.turn.ensures.apart c.loop.invariant.4;
  ended = HasEnded.deserted (sym c.is_deserted.ensures ∙ c.if-is_deserted.true);
  none_idle = decided_none_idle _ _ c.in_ok-goes_on.ensures.told;
}

pub returns : goal.returns
returns g c = record {
  formula = c.loop.invariant.0;
  used = at_end _ _ _ _ _ _ c.loop.invariant.3 (omega (arith, c.loop-test.false));
  most = omega (arith, c.loop.invariant.1);
  each = c.loop.invariant.2;
  apart = c.loop.invariant.4;
  ended = HasEnded.full (omega (arith, c.loop-test.false, c.loop.invariant.5));
  none_idle = c.loop.invariant.6;
}

pub loop-preserved : goal.loop-preserved
loop-preserved g c =
    let one = c.in_ok-goes_on.ensures.arrived c.if-not-goes_on.false in (
      c.turn.ensures.formula ∙ c.loop.invariant.0,
      omega (arith, one, c.turn.ensures.most, c.loop.invariant.1),
      closes_on _ _ _ _ _ _ _ _ _ c.loop.invariant.2 c.turn.ensures.each,
      inr (after_turn _ _ _ _ _ _ _ _ c.loop.invariant.3 c.turn.ensures.one c.turn.ensures.rises c.turn.ensures.first),
      c.turn.ensures.apart c.loop.invariant.4,
      omega (arith, one, c.loop.invariant.5),
      decided_none_idle _ _ c.in_ok-goes_on.ensures.told,
      sym c.is_deserted.ensures ∙ c.if-is_deserted.false,
    )
