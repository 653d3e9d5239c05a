-- The lemmas of conflicts: asserting ones, with one literal of the present level, and those of negated assumptions.
use Rattle.std.specs.Prelude.{◌≡◌, ◌≢◌, ℕ, ◌-◌, ◌<◌, ◌≤◌, Bool, true, false, if◌then◌else◌, List, [], ◌∷◌, ◌++◌, ◌⊎◌, None, Some, map, nat_eq, reverse, sum_by, All, Contains}
use Rattle.std.specs.List.{IsDistinct, count_by, filter_map}
use Rattle.dimacs.specs.logic.ClauseMap.{Live}
use Rattle.dimacs.specs.logic.Literal.{Literal, Clause, IsWithin, negation, same, var_of}
use Rattle.dimacs.specs.logic.Propagation.{IsFalse, Rup}
use Rattle.watches.specs.Law.{IsConflict}
use Rattle.watches.specs.Trails.{TrailValue, holds, up_to, present}
use Rattle.conflict_analysis.specs.BuiltTrails.{AreBuilt, AreInside}
use Rattle.conflict_analysis.specs.declared.lemma.Lemma.{Lemma}
use Rattle.watches.specs.declared.trail.Assigned.{Assigned}
use Rattle.conflict_analysis.specs.declared.final_analysis.Closing.{Closing}
use Rattle.conflict_analysis.specs.declared.final_analysis.Closing.TheVariants as closing

-- a conflict's property: the false clause of this number is false only since the present level
abbrev pub IsFalseSincePresent : Live → List Assigned → ℕ → Type 0
IsFalseSincePresent live entries number = (C : Clause) → live number C → ¬ (IsFalse (up_to entries (present entries - 1)) C)

-- an asserting lemma: its literals are false, exactly one is of the present level, and `level` is the greatest level of the others, 0 if
-- there is none
pub record IsAsserting (entries : List Assigned) (lits : Clause) (level : ℕ) : Type 0 where
  pub literal : Literal
  pub member : Contains lits literal
  pub is_false : holds entries (negation literal) ≡ true
  pub is_present : up_to entries (present entries - 1) (negation literal) ≡ false
  pub below : level < present entries
  pub others : (k : Literal) → Contains lits k → k ≢ literal → up_to entries level (negation k) ≡ true
  pub reached : (level ≡ 0) ⊎ ((k : Literal) × Contains lits k × (k ≢ literal) × ((j : ℕ) → j < level → up_to entries j (negation k) ≡ false))

-- the hints of a lemma are the reasons of some entries, in trail order, and then the number of the false clause
abbrev pub AreInTrailOrder : List Assigned → ℕ → List ℕ → Type 0
AreInTrailOrder entries number hints =
    (used : Literal → Bool) × (hints ≡ filter_map (λ e. if used e.literal then e.reason else None) entries ++ number ∷ [])

-- a conflict that can be analysed: the false clause of this number has a literal of the present level, above level 0
pub record IsPresentConflict (live : Live) (t : TrailValue) (number : ℕ) : Type 0 where
  -- each entry was a decision, or implied by a live clause, when it was pushed
  pub built : AreBuilt live [] t.entries
  -- live clauses have variables of the trail alone
  pub inside : AreInside live t.vars
  -- the clause of this number is live, and false
  pub conflict : IsConflict live t.entries number
  -- the clause is false only since the present level
  pub here : IsFalseSincePresent live t.entries number
  -- the present level is above 0
  pub above : 0 < present t.entries

-- the lemma of the conflict of the false clause `number`
pub record IsLemmaOf (live : Live) (t : TrailValue) (number : ℕ) (lemma : Lemma) : Type 0 where
  -- it follows from the live clauses by reverse unit propagation along its hints
  pub rup : Rup live lemma.lits.items lemma.hints.items
  -- the hints are reasons in trail order, with the false clause last
  pub ordered : AreInTrailOrder t.entries number lemma.hints.items
  -- its literals are false, exactly one of them of the present level; its level is the greatest of the others, 0 if there is none
  pub asserting : IsAsserting t.entries lemma.lits.items lemma.level
  -- no literal stands in it twice
  pub distinct : IsDistinct same lemma.lits.items
  -- each literal is of a variable of the trail
  pub within : All (IsWithin t.vars) lemma.lits.items

-- the variables that an analysis met: each of them once, and the repeated ones as often as they were repeated
pub record Met : Type 0 where
  pub once : List ℕ
  pub again : List ℕ

-- a list of variables from 1 to `vars`, none of them twice
pub record AreDistinctVars (vars : ℕ) (listed : List ℕ) : Type 0 where
  pub within : All (λ v. (0 < v) × (v ≤ vars)) listed
  pub distinct : IsDistinct nat_eq listed

-- a list `again` of variables from 1 to `vars`, each of them in the list `listed`
pub record AreListedVars (vars : ℕ) (listed again : List ℕ) : Type 0 where
  pub within : All (λ v. (0 < v) × (v ≤ vars)) again
  pub among : All (Contains listed) again

-- the number of literals of a variable in a clause
abbrev pub occurrences : ℕ → Clause → ℕ
occurrences v C = count_by (λ k. nat_eq v (var_of k)) C

-- the number of literals of a variable in clauses; each clause comes with its number
abbrev pub occurrences_in : ℕ → List (ℕ × Clause) → ℕ
occurrences_in v named = sum_by (λ (c : ℕ × Clause). occurrences v c.1) named

-- a live clause, with its number, is the reason of an entry whose level passes the test `at`
abbrev pub IsReason : Live → List Assigned → (ℕ → Type 0) → ℕ × Clause → Type 0
IsReason live entries at c = live c.0 c.1 × ((e : Assigned) × Contains entries e × (e.reason ≡ Some c.0) × at e.level)

-- the variables that the analysis of a false clause met are those of the clauses that the hints name, repeated as often as there
pub record IsTally (live : Live) (t : TrailValue) (number : ℕ) (hints : List ℕ) (m : Met) : Type 0 where
  -- the clauses that the hints name, in reverse: the false one, the reasons of the present level, those of lower levels
  pub conflict : Clause
  pub here : List (ℕ × Clause)
  pub lower : List (ℕ × Clause)
  pub lives : live number conflict
  pub of_present : All (IsReason live t.entries (λ level. level ≡ present t.entries)) here
  pub of_lower : All (IsReason live t.entries (λ level. level < present t.entries)) lower
  pub named : reverse hints ≡ number ∷ map (λ c. c.0) (here ++ lower)
  -- all their variables were met, and no others
  pub were : (v : ℕ) → Contains m.once v → 0 < occurrences_in v ((number, conflict) ∷ here ++ lower)
  pub all : (v : ℕ) → 0 < occurrences_in v ((number, conflict) ∷ here ++ lower) → Contains m.once v
  -- a variable of n literals in the false clause and the reasons of the present level was repeated n - 1 times
  pub again : (v : ℕ) → count_by (nat_eq v) m.again ≡ occurrences_in v ((number, conflict) ∷ here) - 1

-- a decision of the trail
abbrev pub IsDecision : List Assigned → Literal → Type 0
IsDecision entries l = (e : Assigned) × Contains entries e × (e.literal ≡ l) × (e.reason ≡ None)

-- a conflict that closes a cube: a false clause, or an assumption whose negation was implied
abbrev pub IsClosing : Live → List Assigned → Closing → Type 0
IsClosing live entries (closing.Clause number) = IsConflict live entries number
IsClosing live entries (closing.Assumption l) = (holds entries (negation l) ≡ true) × ¬ (IsDecision entries (negation l))

-- each literal of the lemma is the negation of a decision, or of the false assumption
abbrev pub NegatesAssumptions : List Assigned → Closing → Clause → Type 0
NegatesAssumptions entries (closing.Clause number) lits = (l : Literal) → Contains lits l → IsDecision entries (negation l)
NegatesAssumptions entries (closing.Assumption a) lits = (l : Literal) → Contains lits l → IsDecision entries (negation l) ⊎ (negation l ≡ a)
