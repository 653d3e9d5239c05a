use Rattle.std.proofs.Common.{◌∙◌, ◌<◌, length, arith, le_refl, refl}
use Rattle.std.proofs.lemmas.Result.{err_from_is_err_and}
use Rattle.event_loop.proofs.AccountLemmas.{spends_none, spends_on}
use Rattle.event_loop.proofs.Places.{turned, fresh_at, set_fresh}
use Rattle.event_loop.proofs.RegistrationLemmas.{apart_kept}
use Rattle.event_loop.proofs.TimeoutLemmas.{clears_none, clears_on, cleared_at_end, cleared_beyond}
use Rattle.event_loop.proofs.timeouts.close_all_overdue.Goals as goal

pub returns-then-slots-place : goal.returns-then-slots-place
returns-then-slots-place g c = record {
  formula = c.loop-place.invariant.formula;
  verdict = c.loop-place.invariant.verdict;
  spends = c.loop-place.invariant.spends;
  each = c.loop-place.invariant.each;
  fresh = c.loop-place.invariant.fresh;
  apart = c.loop-place.invariant.apart;
  cleared = cleared_beyond c.args.slots.now c.loop-place.slots c.loop-place.place c.args.tick (omega arith) c.loop-place.invariant.cleared;
}

pub returns : goal.returns
returns g c = record {
  formula = c.loop-place.invariant.formula;
  verdict = c.loop-place.invariant.verdict;
  spends = c.loop-place.invariant.spends;
  each = c.loop-place.invariant.each;
  fresh = c.loop-place.invariant.fresh;
  apart = c.loop-place.invariant.apart;
  cleared = cleared_at_end c.args.slots.now c.loop-place.slots c.loop-place.place c.args.tick (omega arith) c.loop-place.invariant.cleared;
}

pub returns-in_err-close_overdue : goal.returns-in_err-close_overdue
returns-in_err-close_overdue g c =
    let p = err_from_is_err_and c.from_residual.result c.from_residual.ensures.1 in
    let at : c.loop-place.place < length c.loop-place.slots = omega arith in record {
      formula = c.close_overdue.ensures.formula ∙ c.loop-place.invariant.formula;
      verdict = c.close_overdue.ensures.verdict ∙ c.loop-place.invariant.verdict;
      spends = spends_on _ _ _ _ _ _ _ c.loop-place.invariant.spends c.close_overdue.ensures.spends (le_refl 0);
      each = turned _ _ _ c.args.slots.now c.loop-place.slots c.loop-place.place c.close_overdue.new.connection c.index-slots-place.result at c.close_overdue.ensures.refusals.here c.close_overdue.ensures.refusals.elsewhere c.loop-place.invariant.each;
      fresh = λ fresh. set_fresh c.loop-place.slots c.loop-place.place c.close_overdue.new.connection (c.close_overdue.ensures.fresh (fresh_at c.loop-place.slots c.loop-place.place c.index-slots-place.result at (c.loop-place.invariant.fresh fresh))) (c.loop-place.invariant.fresh fresh);
      apart = λ apart. apart_kept c.loop-place.slots c.loop-place.place c.close_overdue.new.connection c.index-slots-place.result at c.close_overdue.ensures.owner (c.loop-place.invariant.apart apart);
      cleared = rw p.1 tt;
    }

pub loop-place-preserved : goal.loop-place-preserved
loop-place-preserved g c =
    let at : c.loop-place.place < length c.loop-place.slots = omega arith in record {
      formula = c.close_overdue.ensures.formula ∙ c.loop-place.invariant.formula;
      verdict = c.close_overdue.ensures.verdict ∙ c.loop-place.invariant.verdict;
      spends = spends_on _ _ _ _ _ _ _ c.loop-place.invariant.spends c.close_overdue.ensures.spends (le_refl 0);
      each = turned _ _ _ c.args.slots.now c.loop-place.slots c.loop-place.place c.close_overdue.new.connection c.index-slots-place.result at c.close_overdue.ensures.refusals.here c.close_overdue.ensures.refusals.elsewhere c.loop-place.invariant.each;
      fresh = λ fresh. set_fresh c.loop-place.slots c.loop-place.place c.close_overdue.new.connection (c.close_overdue.ensures.fresh (fresh_at c.loop-place.slots c.loop-place.place c.index-slots-place.result at (c.loop-place.invariant.fresh fresh))) (c.loop-place.invariant.fresh fresh);
      apart = λ apart. apart_kept c.loop-place.slots c.loop-place.place c.close_overdue.new.connection c.index-slots-place.result at c.close_overdue.ensures.owner (c.loop-place.invariant.apart apart);
      cleared = clears_on c.args.slots.now c.loop-place.slots c.loop-place.place c.args.tick c.close_overdue.new.connection c.index-slots-place.result c.has_idle-is_other_idle.result at c.has_idle-is_other_idle.ensures
          (λ late. (c.close_overdue.ensures.ended late).0) (λ timely. (c.close_overdue.ensures.stays timely).0) c.loop-place.invariant.cleared;
    }

pub loop-place-init : goal.loop-place-init
loop-place-init g c = record {
  formula = refl;
  verdict = refl;
  spends = spends_none _ _ _;
  each = λ p. le_refl _;
  fresh = λ fresh. fresh;
  apart = λ apart. apart;
  cleared = clears_none c.args.slots.now c.args.tick;
}
