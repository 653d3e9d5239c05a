use Rattle.std.proofs.Common.{[], ◌∷◌, ◌++◌, take, sym, ◌∙◌, ap, subst}
use Rattle.std.specs.List.{Contains}
use Rattle.std.proofs.lemmas.Bool.{MatchBool-at_true, MatchBool-at_false}
use Rattle.std.proofs.lemmas.List.{take_more}
use Rattle.std.proofs.lemmas.List.Elements.{Contains-get_or}
use Rattle.dimacs.specs.logic.Literal.{Literal, Clause}
use Rattle.elimination.specs.inner.Gathered.{IsGathered, IsRefused}
use Rattle.elimination.proofs.GatherLemmas.{gathered_more, refused_more, front_in}
use Rattle.elimination.proofs.resolvent.gather.Goals as goal

pub returns-then-not-branch : goal.returns-then-not-branch
returns-then-not-branch c =
    let C = c.args.clause.now in
    let i = c.loop-literal.literal-index in
    let l = c.literal-item.result in
    let out = c.loop-literal.out.items in
    refused_more (take i C) C l c.args.on c.args.out.now.items out (front_in i C)
    (subst (λ (x : Literal). Contains C x) (sym c.literal-item.is) (Contains-get_or C i l c.loop-literal-test.true)) c.loop-literal.invariant
    (MatchBool-at_false (IsGathered (l ∷ []) c.args.on out c.gather_literal.new.out.items) (IsRefused (l ∷ []) c.args.on out) c.if-not-branch.true c.in_ok-gather_literal.ensures)

pub loop-literal-preserved : goal.loop-literal-preserved
loop-literal-preserved c =
    let C = c.args.clause.now in
    let i = c.loop-literal.literal-index in
    let l = c.literal-item.result in
    let out = c.loop-literal.out.items in
    let new = c.gather_literal.new.out.items in
    subst (λ (xs : Clause). IsGathered xs c.args.on c.args.out.now.items new)
    (sym (take_more C i l c.loop-literal-test.true ∙ ap (λ (x : Literal). take i C ++ x ∷ []) (sym c.literal-item.is)))
    (gathered_more (take i C) l c.args.on c.args.out.now.items out new c.loop-literal.invariant
    (MatchBool-at_true (IsGathered (l ∷ []) c.args.on out new) (IsRefused (l ∷ []) c.args.on out) c.if-not-branch.false c.in_ok-gather_literal.ensures))
