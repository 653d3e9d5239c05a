use Rattle.std.proofs.Common.{◌∙◌, ◌<◌, length, arith}
use Rattle.std.proofs.lemmas.Result.{err_from_is_err_and}
use Rattle.event_loop.specs.inner.Deliveries.{IdleHaveNothing}
use Rattle.event_loop.proofs.AccountLemmas.{spends_on, spends_within}
use Rattle.event_loop.proofs.Places.{turned}
use Rattle.event_loop.proofs.RegistrationLemmas.{apart_kept, nobody_at_end, nobody_beyond, not_idle, rests_here, rests_on, still_idle}
use Rattle.event_loop.proofs.idle_workers.poll_idle.Goals as goal

pub returns-then-slots-place : goal.returns-then-slots-place
returns-then-slots-place g c = record {
  formula = c.loop-place.invariant.formula;
  verdict = c.loop-place.invariant.verdict;
  spends = spends_within _ _ _ _ _ c.loop-place.invariant.spends (omega (arith, c.loop-place.auto.place-end));
  each = c.loop-place.invariant.each;
  told = IdleHaveNothing.nobody (nobody_beyond c.loop-place.slots c.loop-place.place (omega arith) c.loop-place.invariant.nobody);
  apart = c.loop-place.invariant.apart;
}

pub returns : goal.returns
returns g c = record {
  formula = c.loop-place.invariant.formula;
  verdict = c.loop-place.invariant.verdict;
  spends = spends_within _ _ _ _ _ c.loop-place.invariant.spends (omega (arith, c.loop-place.auto.place-end));
  each = c.loop-place.invariant.each;
  told = IdleHaveNothing.nobody (nobody_at_end c.loop-place.slots c.loop-place.place (omega arith) c.loop-place.invariant.nobody);
  apart = c.loop-place.invariant.apart;
}

pub returns-in_err-poll_if_idle : goal.returns-in_err-poll_if_idle
returns-in_err-poll_if_idle g c =
    let p = err_from_is_err_and c.from_residual.result c.from_residual.ensures.1 in
    let at : c.loop-place.place < length c.loop-place.slots = omega arith in record {
      formula = c.poll_if_idle.ensures.formula ∙ c.loop-place.invariant.formula;
      verdict = c.poll_if_idle.ensures.verdict ∙ c.loop-place.invariant.verdict;
      spends = spends_on _ _ _ _ _ _ _ c.loop-place.invariant.spends c.poll_if_idle.ensures.spends (omega (arith, c.loop-place.auto.place-end, c.loop-place-test.true));
      each = turned _ _ _ c.args.slots.now c.loop-place.slots c.loop-place.place c.poll_if_idle.new.connection c.index-slots-place.result at c.poll_if_idle.ensures.refusals.here c.poll_if_idle.ensures.refusals.elsewhere c.loop-place.invariant.each;
      told = rw p.1 tt;
      apart = λ apart. apart_kept c.loop-place.slots c.loop-place.place c.poll_if_idle.new.connection c.index-slots-place.result at c.poll_if_idle.ensures.owner (c.loop-place.invariant.apart apart);
    }

pub returns-then-branch : goal.returns-then-branch
returns-then-branch g c =
    let at : c.loop-place.place < length c.loop-place.slots = omega arith in record {
      formula = c.poll_if_idle.ensures.formula ∙ c.loop-place.invariant.formula;
      verdict = c.poll_if_idle.ensures.verdict ∙ c.loop-place.invariant.verdict;
      spends = spends_on _ _ _ _ _ _ _ c.loop-place.invariant.spends c.poll_if_idle.ensures.spends (omega (arith, c.loop-place.auto.place-end, c.loop-place-test.true));
      each = turned _ _ _ c.args.slots.now c.loop-place.slots c.loop-place.place c.poll_if_idle.new.connection c.index-slots-place.result at c.poll_if_idle.ensures.refusals.here c.poll_if_idle.ensures.refusals.elsewhere c.loop-place.invariant.each;
      told = rests_here c.loop-place.slots c.loop-place.place c.poll_if_idle.new.connection c.poll_if_idle.new.dispatcher.coordinator at
          (still_idle c.in_ok-poll_if_idle.field-0 c.poll_if_idle.new.connection c.poll_if_idle.new.dispatcher.coordinator c.in_ok-poll_if_idle.ensures.idle c.if-branch.true);
      apart = λ apart. apart_kept c.loop-place.slots c.loop-place.place c.poll_if_idle.new.connection c.index-slots-place.result at c.poll_if_idle.ensures.owner (c.loop-place.invariant.apart apart);
    }

pub loop-place-preserved : goal.loop-place-preserved
loop-place-preserved g c =
    let at : c.loop-place.place < length c.loop-place.slots = omega arith in record {
      formula = c.poll_if_idle.ensures.formula ∙ c.loop-place.invariant.formula;
      verdict = c.poll_if_idle.ensures.verdict ∙ c.loop-place.invariant.verdict;
      spends = spends_on _ _ _ _ _ _ _ c.loop-place.invariant.spends c.poll_if_idle.ensures.spends (omega arith);
      each = turned _ _ _ c.args.slots.now c.loop-place.slots c.loop-place.place c.poll_if_idle.new.connection c.index-slots-place.result at c.poll_if_idle.ensures.refusals.here c.poll_if_idle.ensures.refusals.elsewhere c.loop-place.invariant.each;
      apart = λ apart. apart_kept c.loop-place.slots c.loop-place.place c.poll_if_idle.new.connection c.index-slots-place.result at c.poll_if_idle.ensures.owner (c.loop-place.invariant.apart apart);
      nobody = rests_on c.loop-place.slots c.loop-place.place c.poll_if_idle.new.connection at
          (not_idle c.in_ok-poll_if_idle.field-0 c.poll_if_idle.new.connection c.poll_if_idle.new.dispatcher.coordinator c.in_ok-poll_if_idle.ensures.idle c.if-branch.false)
          c.loop-place.invariant.nobody;
    }
