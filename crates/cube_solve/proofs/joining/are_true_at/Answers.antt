use Rattle.std.proofs.Common.{◌≡◌, inl, inr, List, sym, ◌∙◌, subst, true}
use Rattle.std.specs.List.{Contains}
use Rattle.std.proofs.lemmas.Bool.{OnTrue_at}
use Rattle.std.proofs.lemmas.List.{take_all}
use Rattle.conflict_analysis.proofs.FrontLemmas.{Contains-take_more}
use Rattle.dimacs.specs.logic.Literal.{Literal}
use Rattle.watches.specs.Trails.{up_to}
use Rattle.cube_solve.proofs.joining.are_true_at.Goals as goal

pub loop-literal-preserved : goal.loop-literal-preserved
loop-literal-preserved c = λ x i.
    let C = c.args.literals.now in
    elim (Contains-take_more C c.loop-literal.literal-index c.literal-item.result x c.loop-literal-test.true i) [
      | inl before ↦ c.loop-literal.invariant x before
      | inr here ↦ subst (λ (l : Literal). up_to c.args.trail.now.entries c.args.level l ≡ true) (c.literal-item.is ∙ here) (OnTrue_at c.if-not-is_true_at.false c.is_true_at.ensures)
    ]

pub returns : goal.returns
returns c = λ x i. c.loop-literal.invariant x (subst (λ (C : List Literal). Contains C x) (sym (take_all c.loop-literal.literal-index c.args.literals.now c.loop-literal-test.false)) i)
