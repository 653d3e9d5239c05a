use Rattle.std.proofs.Common.{◌≡◌, inl, inr, Some, List, sym, subst, ◌∙◌}
use Rattle.std.specs.List.{Contains}
use Rattle.std.proofs.lemmas.List.{take_all}
use Rattle.dimacs.specs.logic.Literal.{Literal}
use Rattle.conflict_analysis.proofs.FrontLemmas.{Contains-take_more}
use Rattle.watches.specs.declared.trail.Assigned.{Assigned}
use Rattle.cube_solve.proofs.ReductionLemmas.{on_false_at}
use Rattle.cube_solve.proofs.reduce.is_reason.Goals as goal

pub loop-literal-preserved : goal.loop-literal-preserved
loop-literal-preserved c = λ e i j r.
    elim (Contains-take_more c.args.clause.now c.loop-literal.literal-index c.literal-item.result e.literal c.loop-literal-test.true j) [
      | inl k ↦ c.loop-literal.invariant e i k r
      | inr s ↦ on_false_at c.is_implied_by.result ((x : Assigned) → Contains c.args.trail.now.entries x → x.literal ≡ c.literal-item.result → ¬ (x.reason ≡ Some c.args.number))
          c.if-is_implied_by.false c.is_implied_by.ensures e i (sym s ∙ sym c.literal-item.is) r
    ]

pub returns : goal.returns
returns c = λ e i j r. c.loop-literal.invariant e i (subst (λ (xs : List Literal). Contains xs e.literal) (sym (take_all c.loop-literal.literal-index c.args.clause.now c.loop-literal-test.false)) j) r
