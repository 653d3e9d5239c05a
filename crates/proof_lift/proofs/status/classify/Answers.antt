use Rattle.std.proofs.Common.{◌<◌, length, ◌∙◌, sym, ap, arith}
use Rattle.dimacs.specs.logic.Literal.{Literal}
use Rattle.dimacs.specs.logic.Propagation.{Assumed}
use Rattle.lrat_check.specs.inner.Marks.{assumed_by}
use Rattle.lrat_check.proofs.Free.{status-more, status-more_false, none_true-more}
use Rattle.lrat_check.specs.Statuses.{status_in}
use Rattle.proof_lift.proofs.status.classify.Goals as goal
use Rattle.proof_lift.proofs.status.classify.Goals.{then-not-is_marked, else-not-is_marked}

pub loop-l-preserved : goal.loop-l-preserved
loop-l-preserved c =
    let α : Assumed = assumed_by c.args.marks.now c.args.stamp c.args.stamp in
    let l : Literal = c.l-item.result in
    let below : c.loop-l.l-index < length c.args.clause.now = omega arith in
    record {
      none_true = none_true-more α c.args.clause.now c.loop-l.l-index l below c.l-item.is c.if-is_marked.ensures c.loop-l.invariant.none_true;
      seen_is = elim c.if-not-is_marked.branch [
        | then-not-is_marked w ↦
            ap status_in w.seen-is ∙ w.with_free-seen.ensures
            ∙ status-more α c.args.clause.now c.loop-l.l-index l (status_in c.loop-l.seen) below c.l-item.is
            (sym w.if-not-is_marked.true ∙ c.is_marked-in-loop-l.ensures ∙ ap α c.negate.ensures) c.loop-l.invariant.seen_is
        | else-not-is_marked w ↦
            ap status_in w.seen-is
            ∙ status-more_false α c.args.clause.now c.loop-l.l-index l (status_in c.loop-l.seen) below c.l-item.is
            (sym w.if-not-is_marked.false ∙ c.is_marked-in-loop-l.ensures ∙ ap α c.negate.ensures) c.loop-l.invariant.seen_is
      ];
    }
