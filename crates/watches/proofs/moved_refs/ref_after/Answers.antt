use Rattle.std.proofs.Common.{ℕ, inr, refl, sym, ◌∙◌, subst}
use Rattle.watches.specs.inner.MovedRefs.{IsUnmoved}
use Rattle.watches.proofs.moved_refs.ref_after.Goals as goal

pub returns-else-number : goal.returns-else-number
returns-else-number c =
    let m = c.in-Some.ensures.moved in
    record { number = refl; follows = inr (refl, λ r k. absurd (c.if-number.false (c.number-in-Some.ensures ∙ k m.0 c.in-Some.to m.1 ∙ m.2 ∙ c.number.ensures ∙ sym c.number-in-Some-2.ensures))) }

pub returns-in-None : goal.returns-in-None
returns-in-None c = record { number = refl; follows = inr (refl, λ r k. subst (λ (n : ℕ). IsUnmoved c.args.moves.now n) c.number.ensures (c.in-None.ensures.unmoved r)) }
