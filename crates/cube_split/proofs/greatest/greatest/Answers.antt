use Rattle.std.proofs.Common.{arith, ◌≡◌, ◌∙◌, get_or}
use Rattle.std.proofs.lemmas.List.{get_or_default}
use Rattle.cube_split.proofs.GreatestLemmas.{best_below, best_none, best_new, best_kept, best_some, best_is_none, unmarked_true, unmarked_false}
use Rattle.cube_split.proofs.greatest.greatest.Goals as goal
use Rattle.cube_split.proofs.greatest.greatest.Goals.{then-is_ahead+then-is_unmarked, else-is_ahead, else-is_ahead-via-then-is_ahead+else-is_unmarked, else-is_ahead-via-else-is_ahead}

pub loop-var-init : goal.loop-var-init
loop-var-init c = best_none c.args.marks.now c.args.counts.now c.args.variables.now

pub is_ahead-requires-clause-best : goal.is_ahead-requires-clause-best
is_ahead-requires-clause-best c = best_below c.args.marks.now c.args.counts.now c.loop-var.best c.loop-var.invariant.is

pub loop-var-preserved : goal.loop-var-preserved
loop-var-preserved c =
    let is : c.var-item.result ≡ get_or c.args.variables.now c.loop-var.var-index 0 = c.var-item.is ∙ get_or_default c.args.variables.now c.loop-var.var-index c.var-item.result 0 c.loop-var-test.true in
    elim c.if-is_ahead.branch [
      | then-is_ahead+then-is_unmarked w ↦ rw w.best-is (best_new c.args.marks.now c.args.counts.now c.args.variables.now c.loop-var.var-index c.var-item.result c.loop-var.best c.requires.listed c.loop-var-test.true is
          (unmarked_true c.args.marks.now c.var-item.result w.is_unmarked.result w.is_unmarked.ensures w.if-is_unmarked.true) (c.is_ahead.ensures.yes w.if-is_ahead.true) c.loop-var.invariant)
      | else-is_ahead w ↦ rw w.best-is (best_kept c.args.marks.now c.args.counts.now c.args.variables.now c.loop-var.var-index c.var-item.result c.loop-var.best is
          (elim w.else-is_ahead.branch [
            | else-is_ahead-via-then-is_ahead+else-is_unmarked v ↦ λ u a. unmarked_false c.args.marks.now c.var-item.result v.is_unmarked.result v.is_unmarked.ensures v.if-is_unmarked.false u
            | else-is_ahead-via-else-is_ahead v ↦ λ u. c.is_ahead.ensures.no v.if-is_ahead.false
          ]) c.loop-var.invariant)
    ]

pub returns-clause-some : goal.returns-clause-some
returns-clause-some c = best_some c.args.marks.now c.args.counts.now c.args.variables.now c.loop-var.var-index c.loop-var.best c.requires.listed (omega arith) c.loop-var.invariant

pub returns-clause-none : goal.returns-clause-none
returns-clause-none c = best_is_none c.args.marks.now c.args.counts.now c.args.variables.now c.loop-var.var-index c.loop-var.best c.requires.listed (omega arith) c.loop-var.invariant
