use Rattle.std.proofs.Common.{List, ℕ, ◌∙◌, refl, sym, ap, eqb, length}
use Rattle.sessions.proofs.SideLemmas.{ends_cut, ends_open, ends_right}
use Rattle.sessions.proofs.proof_side.ProofSide.end.Goals as goal

pub returns-then-not-is_none-clause-ends : goal.returns-then-not-is_none-clause-ends
returns-then-not-is_none-clause-ends c = ends_cut c.args.self.now _ (ap (λ (b : List ℕ). eqb (length b) 0) (sym c.deref.ensures.value) ∙ sym c.is_none.ensures ∙ c.if-not-is_none.true) c.stop.ensures

pub returns-then-is_between-clause-ends : goal.returns-then-is_between-clause-ends
returns-then-is_between-clause-ends c = ends_right c.args.self.now _ (ap (λ (b : List ℕ). eqb (length b) 0) (sym c.deref.ensures.value) ∙ sym c.is_none.ensures ∙ c.if-not-is_none.false) (sym c.is_between.ensures ∙ c.if-is_between.true) refl

pub returns-else-is_between-clause-ends : goal.returns-else-is_between-clause-ends
returns-else-is_between-clause-ends c = ends_open c.args.self.now _ (ap (λ (b : List ℕ). eqb (length b) 0) (sym c.deref.ensures.value) ∙ sym c.is_none.ensures ∙ c.if-not-is_none.false) (sym c.is_between.ensures ∙ c.if-is_between.false) c.stop-else-is_between.ensures
