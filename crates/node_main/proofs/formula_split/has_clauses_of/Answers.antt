use Rattle.std.proofs.Common.{rules, ◌≡◌, ◌<◌, Bool, true, false, not, List, [], length, get_or, sym, ap, ◌∙◌, arith, Decides}
use Rattle.std.specs.Cmp.Lexicographic.{pointwise}
use Rattle.std.proofs.lemmas.Bool.{false≢true}
use Rattle.std.proofs.lemmas.List.{take_more_same}
use Rattle.std.proofs.lemmas.Slice.Eq.{slice_eq-Decides}
use Rattle.dimacs.specs.logic.Literal.{Clause}
use Rattle.node_main.proofs.formula_split.has_clauses_of.Goals as goal

not_not : (b r : Bool) → r ≡ not b → not r ≡ b
not_not true r e = ap not e
not_not false r e = ap not e

-- what `!=` says of two slices
differs : {A : Type 0} {E : A → A → Bool} (xs ys : List A) (r : Bool) → r ≡ not (pointwise E xs ys) → ((a b : A) → Decides (E a b) (a ≡ b)) → Decides (not r) (xs ≡ ys)
differs {E = E} xs ys r e decides = slice_eq-Decides decides xs ys (not r) (not_not (pointwise E xs ys) r e)

pub returns-then-ne : goal.returns-then-ne
returns-then-ne c =
    let same = differs c.clause.result.now c.clause-in-loop-i.result.now c.ne.result c.ne.ensures (λ a b. search rules) in (
      λ h. absurd (false≢true h),
      λ e. sym (ap not c.if-ne.true) ∙ same.1 (c.clause.ensures.clause ∙ ap (λ (cs : List Clause). get_or cs c.loop-i.i []) (sym e) ∙ sym c.clause-in-loop-i.ensures.clause),
    )

pub loop-i-preserved : goal.loop-i-preserved
loop-i-preserved c =
    let same = differs c.clause.result.now c.clause-in-loop-i.result.now c.ne.result c.ne.ensures (λ a b. search rules) in
    let one : c.loop-i.i < length c.args.other.now.clauses = omega arith in
    let two : c.loop-i.i < length c.args.formula.now.clauses = omega arith in
    take_more_same c.args.other.now.clauses c.args.formula.now.clauses c.loop-i.i [] one two c.loop-i.invariant
    (sym c.clause-in-loop-i.ensures.clause ∙ sym (same.0 (ap not c.if-ne.false)) ∙ c.clause.ensures.clause)
