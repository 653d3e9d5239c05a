-- Twins: clauses that are the same up to the order of literals and repeated literals.
use Rattle.std.specs.Prelude.{◌≡◌, ℕ, ◌↔◌, ◌⊎◌, Contains}
use Rattle.dimacs.specs.logic.ClauseMap.{Live}
use Rattle.dimacs.specs.logic.Literal.{Literal, Clause}

-- twins: two clauses with the same literals
abbrev pub AreTwins : Clause → Clause → Type 0
AreTwins C D = (l : Literal) → Contains C l ↔ Contains D l

-- each new clause has a twin of the same number among the old ones
abbrev pub AreAmong : Live → Live → Type 0
AreAmong new old = (n : ℕ) (D : Clause) → new n D → (C : Clause) × old n C × AreTwins C D

-- each new clause is a twin of `lits` or has a twin of the same number among the old ones
abbrev pub AreAmongOr : Live → Live → Clause → Type 0
AreAmongOr new old lits = (n : ℕ) (D : Clause) → new n D → ((C : Clause) × old n C × AreTwins C D) ⊎ AreTwins lits D

-- each clause of either has a twin of the same number in the other
pub record AreLinked (a b : Live) : Type 0 where
  pub forth : (n : ℕ) (C : Clause) → a n C → (D : Clause) × b n D × AreTwins C D
  pub back : (n : ℕ) (D : Clause) → b n D → (C : Clause) × a n C × AreTwins C D

-- the clauses `new` are those of `old` and the clause `lits` under the number `id`, all of them up to twins
pub record IsAdded (old : Live) (id : ℕ) (lits : Clause) (new : Live) : Type 0 where
  pub stays : (n : ℕ) (C : Clause) → old n C → (D : Clause) × new n D × AreTwins C D
  pub there : (D : Clause) × new id D × AreTwins lits D
  pub only : (n : ℕ) (D : Clause) → new n D → ((C : Clause) × old n C × AreTwins C D) ⊎ ((n ≡ id) × AreTwins lits D)
