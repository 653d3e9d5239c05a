-- Noted unit clauses, and the unit lemma of a literal that is true at level 0.
use Rattle.std.specs.Prelude.{◌≡◌, ℕ, ◌<◌, true, List, [], ◌∷◌, ◌⊎◌, slice_index_or, Contains}
use Rattle.dimacs.specs.logic.ClauseMap.{Live}
use Rattle.dimacs.specs.logic.Literal.{Literal, Clause, IsWithin, negation, var_of}
use Rattle.dimacs.specs.logic.Propagation.{Assumed, Leads, Rup, negations}
use Rattle.conflict_analysis.specs.declared.lemma.Lemma.{Lemma}
use Rattle.watches.specs.declared.trail.Assigned.{Assigned}
use Rattle.watches.specs.Trails.{TrailValue, holds, up_to}

-- the clause C is a unit clause of the literal l, which it may repeat
abbrev pub IsUnitOf : Clause → Literal → Type 0
IsUnitOf C l = Contains C l × ((k : Literal) → Contains C k → k ≡ l)

-- a unit clause of the variable v is noted in the table, or the table has no entry for v
abbrev pub IsNoted : List ℕ → ℕ → Type 0
IsNoted numbers v = 0 < slice_index_or numbers v 1

-- each live unit clause is noted under its variable
abbrev pub AreNoted : Live → List ℕ → Type 0
AreNoted live numbers = (n : ℕ) (C : Clause) (l : Literal) → live n C → IsUnitOf C l → IsNoted numbers (var_of l)

-- from the negation of l, the hints lead to the negations of the literals seen so far, each of which is l or false
pub record IsLed (live : Live) (entries : List Assigned) (l : Literal) (seen : Clause) (hints : List ℕ) : Type 0 where
  pub reached : Assumed
  pub leads : Leads live (negations (l ∷ [])) hints reached
  pub first : reached (negation l) ≡ true
  pub all : (k : Literal) → Contains seen k → reached (negation k) ≡ true
  pub only : (m : Literal) → reached m ≡ true → (m ≡ negation l) ⊎ Contains seen (negation m)
  pub lie : (k : Literal) → Contains seen k → (k ≡ l) ⊎ (holds entries (negation k) ≡ true)

-- the unit lemma of a literal that is true at level 0 and has no noted unit clause
pub record IsRootUnitLemma (live : Live) (t : TrailValue) (numbers : List ℕ) (l : Literal) (lemma : Lemma) : Type 0 where
  pub within : IsWithin t.vars l
  pub fixed : up_to t.entries 0 l ≡ true
  pub lits : lemma.lits.items ≡ l ∷ []
  pub rup : Rup live (l ∷ []) lemma.hints.items
  pub unnoted : IsNoted numbers (var_of l) → ⊥
