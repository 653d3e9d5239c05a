use Rattle.std.proofs.Common.{◌∙◌, ◌<◌, length, arith, le_refl}
use Rattle.event_loop.proofs.AccountLemmas.{spends_on}
use Rattle.event_loop.proofs.Places.{turned}
use Rattle.event_loop.proofs.RegistrationLemmas.{apart_kept}
use Rattle.event_loop.proofs.timeouts.close_inactive.Goals as goal

pub returns-then-slots-place : goal.returns-then-slots-place
returns-then-slots-place g c = record {
  formula = c.loop-place.invariant.formula;
  verdict = c.loop-place.invariant.verdict;
  spends = c.loop-place.invariant.spends;
  each = c.loop-place.invariant.each;
  apart = c.loop-place.invariant.apart;
}

pub returns : goal.returns
returns g c = record {
  formula = c.loop-place.invariant.formula;
  verdict = c.loop-place.invariant.verdict;
  spends = c.loop-place.invariant.spends;
  each = c.loop-place.invariant.each;
  apart = c.loop-place.invariant.apart;
}

pub loop-place-preserved : goal.loop-place-preserved
loop-place-preserved g c =
    let at : c.loop-place.place < length c.loop-place.slots = omega arith in record {
      formula = c.close_if_inactive.ensures.formula ∙ c.loop-place.invariant.formula;
      verdict = c.close_if_inactive.ensures.verdict ∙ c.loop-place.invariant.verdict;
      spends = spends_on _ _ _ _ _ _ _ c.loop-place.invariant.spends c.close_if_inactive.ensures.spends (le_refl 0);
      each = turned _ _ _ c.args.slots.now c.loop-place.slots c.loop-place.place c.close_if_inactive.new.connection c.index-slots-place.result at c.close_if_inactive.ensures.refusals.here c.close_if_inactive.ensures.refusals.elsewhere c.loop-place.invariant.each;
      apart = λ apart. apart_kept c.loop-place.slots c.loop-place.place c.close_if_inactive.new.connection c.index-slots-place.result at c.close_if_inactive.ensures.owner (c.loop-place.invariant.apart apart);
    }
