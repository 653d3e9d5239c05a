-- The clauses of an arena after one was added.
use Rattle.std.proofs.Common.{◌≡◌, ℕ, sym, ◌∙◌, subst, ap, ◌≢◌, inl, inr, None, Result, Ok, Err, Some, Option, Bool, true, false, cond, refl, rules, length}
use Rattle.std.specs.Result.{OnErr}
use Rattle.std.specs.FinMap.{insert, remove, get, get-insert, get-remove, gets}
use Rattle.std.specs.Cmp.{nat_cmp_total}
use Rattle.std.proofs.lemmas.Map.Views.{tells_apart}
use Rattle.std.proofs.lemmas.Map.Lookups.{exact_unsigned}
use Rattle.std.proofs.lemmas.Bool.{cases_eq}
use Rattle.dimacs.specs.logic.Literal.{Clause}
use Rattle.clause_arena.specs.declared.reference.Ref.{Ref}
use Rattle.clause_arena.specs.Clauses.{Clauses, RefersTo}
use Rattle.watches.specs.Law.{SameUpToOrder}

skips : (b : Bool) (x : ℕ × Clause) (o : Option (ℕ × Clause)) → (b ≡ true → ⊥) → cond b (Some x) o ≡ o
skips true x o h = absurd (h refl)
skips false x o h = refl

pub others : (m : Clauses) (k n : ℕ) (x : ℕ × Clause) → (n ≡ k → ⊥) → get (insert m k x) n ≡ get m n
others m k n x h = get-insert nat_cmp_total m k x n ∙ skips _ x (get m n) (λ e. h (tells_apart exact_unsigned n k e))

held : (m : Clauses) (k : ℕ) (x : ℕ × Clause) → get (insert m k x) k ≡ Some x
held m k x = grind (gets, rules)

-- a clause that was added stands where the arena says
pub stands : (m new : Clauses) (at : Ref) (n : ℕ) (C : Clause) → (at.number ≡ n) × (at.len ≡ length C) × (new ≡ insert m n (at.place, C)) → RefersTo new at C
stands m new at n C h = (subst (λ k. get new k ≡ Some (at.place, C)) (sym h.0) (subst (λ x. get x n ≡ Some (at.place, C)) (sym h.2) (held m n (at.place, C))), h.1)

-- ---- a clause that was added, and taken out again
passes : (b : Bool) (o : Option (ℕ × Clause)) → (b ≡ true → ⊥) → cond b None o ≡ o
passes true o h = absurd (h refl)
passes false o h = refl

pub still : (m : Clauses) (k n : ℕ) → (n ≡ k → ⊥) → get (remove m k) n ≡ get m n
still m k n h = get-remove nat_cmp_total m k n ∙ passes _ (get m n) (λ e. h (tells_apart exact_unsigned n k e))

gone : (m : Clauses) (k : ℕ) → get (remove m k) k ≡ None
gone m k = grind (gets, rules)

pub live_again : (m new : Clauses) (at : Ref) (n : ℕ) (C : Clause) → RefersTo m at C → SameUpToOrder m new → (D : Clause) × RefersTo new at D
live_again m new at n C s h = let t = h.there at.number at.place C s.0 in (t.0, (t.1, s.1 ∙ sym t.2.len))

pub same_again : (old new : Clauses) (n : ℕ) (x : ℕ × Clause) → get old n ≡ None → SameUpToOrder (insert old n x) new → SameUpToOrder old (remove new n)
same_again old new n x f h = record {
  there = λ k p C e.
      let d : k ≢ n = λ q. let y : None ≡ Some (p, C) = sym f ∙ ap (get old) (sym q) ∙ e in cc in
      let t = h.there k p C (others old n k x d ∙ e) in
      (t.0, still new n k d ∙ t.1, t.2);
  none = λ k e. elim (cases_eq k n) [
    | inl q ↦ ap (get (remove new n)) q ∙ gone new n
    | inr d ↦ still new n k d ∙ h.none k (others old n k x d ∙ e)
  ];
}

pub on_err : {T E : Type 0} (r : Result T E) (P : Type 0) → P → OnErr r P
on_err (Ok x) P p = tt
on_err (Err e) P p = p
