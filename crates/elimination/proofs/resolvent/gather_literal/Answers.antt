use Rattle.std.proofs.Common.{[], ◌∷◌, sym, ◌∙◌, ap, subst}
use Rattle.dimacs.specs.logic.Literal.{Clause, has}
use Rattle.elimination.specs.inner.Gathered.{IsGathered}
use Rattle.elimination.proofs.GatherLemmas.{same_place, other_place, gathered_there, gathered_new, refused_negation, refused_pair}
use Rattle.elimination.proofs.resolvent.gather_literal.Goals as goal
use Rattle.elimination.proofs.resolvent.gather_literal.Goals.{then-eq-2-via-then-eq-2, then-eq-2-via-else-eq-2+then-has_literal}

pub returns-then-eq-2 : goal.returns-then-eq-2
returns-then-eq-2 c =
    let differs = other_place c.args.literal c.args.on c.eq.result c.eq.ensures c.if-eq.false in
    elim c.then-eq-2.branch [
      | then-eq-2-via-then-eq-2 w ↦
          refused_negation c.args.literal c.args.on c.args.out.now.items differs
          (sym c.negate-negation.ensures ∙ same_place c.negate-negation.result c.args.on c.eq-2.result c.eq-2.ensures w.if-eq-2.true)
      | then-eq-2-via-else-eq-2+then-has_literal w ↦
          refused_pair c.args.literal c.args.on c.args.out.now.items differs
          (ap (has c.args.out.now.items) (sym c.negate-negation.ensures)
          ∙ ap (λ (xs : Clause). has xs c.negate-negation.result) (sym w.deref.ensures.value)
          ∙ sym w.has_literal.ensures
          ∙ w.if-has_literal.true)
    ]

pub returns-in_ok-push : goal.returns-in_ok-push
returns-in_ok-push c =
    let out = c.args.out.now.items in
    let other = other_place c.negate-negation.result c.args.on c.eq-2.result c.eq-2.ensures c.if-eq-2.false in
    subst (λ (xs : Clause). IsGathered (c.args.literal ∷ []) c.args.on out xs) (sym c.in_ok-push.ensures.items)
    (gathered_new c.args.literal c.args.on out
    (other_place c.args.literal c.args.on c.eq.result c.eq.ensures c.if-eq.false)
    (λ e. other (c.negate-negation.ensures ∙ e))
    (ap (has out) (sym c.negate-negation.ensures) ∙ ap (λ (xs : Clause). has xs c.negate-negation.result) (sym c.deref.ensures.value) ∙ sym c.has_literal.ensures ∙ c.if-has_literal.false)
    (ap (λ (xs : Clause). has xs c.args.literal) (sym c.deref-2.ensures.value) ∙ sym c.has_literal-2.ensures ∙ c.if-not-has_literal.true))

pub returns-else-not-has_literal : goal.returns-else-not-has_literal
returns-else-not-has_literal c =
    gathered_there c.args.literal c.args.on c.args.out.now.items
    (ap (λ (xs : Clause). has xs c.args.literal) (sym c.deref-2.ensures.value) ∙ sym c.has_literal-2.ensures ∙ c.if-not-has_literal.false)
