-- Unit propagation along hints, and reverse unit propagation (Cruz-Filipe, Heule, Hunt, Kaufmann and Schneider-Kamp 2017).
use Rattle.std.specs.Prelude.{◌≡◌, ◌≢◌, ℕ, Bool, true, false, ◌||◌, List, [], ◌∷◌, ◌++◌, Contains}
use Rattle.dimacs.specs.logic.Literal.{Literal, Clause, IsTautology, negation, same, has}
use Rattle.dimacs.specs.logic.ClauseMap.{Live}

-- a partial assignment: whether a literal is assumed to be true
abbrev pub Assumed : Type 0
Assumed = Literal → Bool

-- the partial assignment that assumes the negation of each literal of the clause C, and no other literal
abbrev pub negations : Clause → Assumed
negations C = λ k. has C (negation k)

-- the partial assignment that assumes l and what α assumes
abbrev pub with_literal : Assumed → Literal → Assumed
with_literal α l = λ k. same k l || α k

-- the clause C is false under α: the negation of each of its literals is assumed
abbrev pub IsFalse : Assumed → Clause → Type 0
IsFalse α C = (k : Literal) → Contains C k → α (negation k) ≡ true

-- the clause C is unit under α: its literal l is neither true nor false, and every other literal is false
pub record IsUnit (α : Assumed) (C : Clause) (l : Literal) : Type 0 where
  pub member : Contains C l
  pub not_true : α l ≡ false
  pub not_false : α (negation l) ≡ false
  pub others : (k : Literal) → Contains C k → k ≢ l → α (negation k) ≡ true

-- the hints lead from α to β: each hint in turn names a live clause that is unit, and its one literal that is not false is then assumed
abbrev pub Leads : Live → Assumed → List ℕ → Assumed → Type 0
Leads live α [] β = α ≡ β
Leads live α (hint ∷ hints) β = (C : Clause) × (l : Literal) × live hint C × IsUnit α C l × Leads live (with_literal α l) hints β

-- the hints refute the assumptions α: all except the last propagate, and the last one names a live clause that is then false
pub record Refutes (live : Live) (α : Assumed) (hints : List ℕ) : Type 0 where
  pub front : List ℕ
  pub last : ℕ
  pub reached : Assumed
  pub clause : Clause
  pub splits : hints ≡ front ++ last ∷ []
  pub leads : Leads live α front reached
  pub lives : live last clause
  pub conflict : IsFalse reached clause

-- the lemma C has reverse unit propagation (RUP) by its hints
pub record Rup (live : Live) (C : Clause) (hints : List ℕ) : Type 0 where
  pub no_pair : ¬ (IsTautology C)
  pub refutes : Refutes live (negations C) hints
