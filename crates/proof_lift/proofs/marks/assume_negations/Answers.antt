use Rattle.std.proofs.Common.{◌≡◌, ◌<◌, ◌+◌, length, arith, ◌∙◌, ap, sym, refl}
use Rattle.dimacs.specs.logic.Literal.{index_of, negation}
use Rattle.lrat_check.proofs.Places.{negation_below}
use Rattle.lrat_check.proofs.Pairs.{negations_more, no_pair_more, pair_found}
use Rattle.proof_lift.proofs.MarkLemmas.{below_set, below_more, none_marked_negations}
use Rattle.proof_lift.proofs.marks.assume_negations.Goals as goal

pub loop-l-init : goal.loop-l-init
loop-l-init c = record {
  assumed = none_marked_negations c.args.stamp c.args.marks.now c.requires.unused;
  apart = refl;
  below = below_more c.args.stamp c.args.marks.now c.requires.unused;
}

pub returns-then-marks-index-clause-pair : goal.returns-then-marks-index-clause-pair
returns-then-marks-index-clause-pair c =
    sym (pair_found c.loop-l.marks c.args.stamp c.args.lits.now c.loop-l.l-index c.l-item.result c.loop-l-test.true c.l-item.is c.loop-l.invariant.assumed
    (rw (← c.index.ensures.value) c.if-marks-index.true))

pub returns-then-marks-index-clause-below : goal.returns-then-marks-index-clause-below
returns-then-marks-index-clause-below c = c.loop-l.invariant.below

pub loop-l-preserved : goal.loop-l-preserved
loop-l-preserved c =
    let below : c.loop-l.l-index < length c.args.lits.now = omega arith in
    let place : c.index-in-loop-l.result ≡ index_of (negation c.l-item.result) = c.index-in-loop-l.ensures.value ∙ ap index_of c.negate.ensures in
    let room : index_of (negation c.l-item.result) < length c.loop-l.marks =
    negation_below c.args.lits.now c.loop-l.l-index c.l-item.result (length c.args.marks.now) (length c.loop-l.marks) below c.l-item.is c.requires.table c.loop-l.auto.marks in
    record {
      assumed = rw place (negations_more c.loop-l.marks c.args.stamp c.args.lits.now c.loop-l.l-index c.l-item.result below c.l-item.is room c.loop-l.invariant.assumed);
      apart = no_pair_more c.loop-l.marks c.args.stamp c.args.lits.now c.loop-l.l-index c.l-item.result below c.l-item.is c.loop-l.invariant.assumed c.loop-l.invariant.apart
          (λ e. c.if-marks-index.false (rw c.index.ensures.value e));
      below = rw place (below_set (c.args.stamp + 1) c.loop-l.marks (index_of (negation c.l-item.result)) c.args.stamp room (omega arith) c.loop-l.invariant.below);
    }
