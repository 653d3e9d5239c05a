use Rattle.std.proofs.Common.{◌≡◌, ◌<◌, ◌+◌, length, arith, ◌∙◌, ap}
use Rattle.dimacs.specs.logic.Literal.{index_of, negation}
use Rattle.lrat_check.proofs.Places.{negation_below}
use Rattle.lrat_check.proofs.Pairs.{negations_more}
use Rattle.proof_lift.proofs.MarkLemmas.{below_set, below_more, none_marked_negations}
use Rattle.proof_lift.proofs.lemma_trim.mark_negations.Goals as goal

pub loop-l-init : goal.loop-l-init
loop-l-init c = record {
  used = none_marked_negations c.args.stamp c.args.marks.now c.requires.unused;
  below = below_more c.args.stamp c.args.marks.now c.requires.unused;
}

pub loop-l-preserved : goal.loop-l-preserved
loop-l-preserved c =
    let below : c.loop-l.l-index < length c.args.clause.now = omega arith in
    let place : c.index.result ≡ index_of (negation c.l-item.result) = c.index.ensures.value ∙ ap index_of c.negate.ensures in
    let room : index_of (negation c.l-item.result) < length c.loop-l.marks =
    negation_below c.args.clause.now c.loop-l.l-index c.l-item.result (length c.args.marks.now) (length c.loop-l.marks) below c.l-item.is c.requires.table c.loop-l.auto.marks in
    record {
      used = rw place (negations_more c.loop-l.marks c.args.stamp c.args.clause.now c.loop-l.l-index c.l-item.result below c.l-item.is room c.loop-l.invariant.used);
      below = rw place (below_set (c.args.stamp + 1) c.loop-l.marks (index_of (negation c.l-item.result)) c.args.stamp room (omega arith) c.loop-l.invariant.below);
    }
