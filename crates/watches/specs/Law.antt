-- The law of unit propagation (Handbook of Satisfiability, chapter 4). Its live clauses are a relation from numbers to clauses, so that it
-- fits a trail, a trail cut to a level, a checker and an arena.
use Rattle.std.specs.Prelude.{◌≡◌, ◌≢◌, ℕ, List, [], ◌∷◌, ◌++◌, Some, None, Contains, ◌↔◌, length, map}
use Rattle.dimacs.specs.logic.Literal.{Literal, Clause}
use Rattle.dimacs.specs.logic.ClauseMap.{Live}
use Rattle.dimacs.specs.logic.Propagation.{Assumed, IsFalse, IsUnit}
use Rattle.std.specs.FinMap.{get}
use Rattle.clause_arena.specs.Clauses.{Clauses}
use Rattle.watches.specs.declared.trail.Assigned.{Assigned}
use Rattle.watches.specs.Trails.{TrailValue, holds, present}

-- a clause's property: under the assignment α it is neither false nor unit
abbrev pub NeitherFalseNorUnit : Assumed → Clause → Type 0
NeitherFalseNorUnit α C = ¬ (IsFalse α C) × ((l : Literal) → ¬ (IsUnit α C l))

-- an assignment's property: under it no live clause is false or unit
abbrev pub NoneFalseOrUnit : Live → Assumed → Type 0
NoneFalseOrUnit live α = (n : ℕ) (C : Clause) → live n C → NeitherFalseNorUnit α C

-- the live clauses whose numbers are among the attached ones
abbrev pub live_among : List ℕ → Live → Live
live_among attached live = λ n C. Contains attached n × live n C

-- an entry's property: its reason is a live clause that was unit with its literal when it was pushed, at the level that was present then
pub record IsImplied (live : Live) (entries : List Assigned) (e : Assigned) : Type 0 where
  pub number : ℕ
  pub clause : Clause
  pub reason : e.reason ≡ Some number
  pub lives : live number clause
  pub unit : IsUnit (holds entries) clause e.literal
  pub level : e.level ≡ present entries

-- `more` was pushed on `entries`, and each entry was implied by a live clause when it was pushed
abbrev pub AreImplied : Live → List Assigned → List Assigned → Type 0
AreImplied live entries [] = Unit {0}
AreImplied live entries (e ∷ more) = IsImplied live entries e × AreImplied live (entries ++ e ∷ []) more

-- a trail, before and after: the new one is the old one and entries that live clauses imply
pub record Grows (live : Live) (old new : TrailValue) : Type 0 where
  pub vars : new.vars ≡ old.vars
  pub more : List Assigned
  pub entries : new.entries ≡ old.entries ++ more
  pub implied : AreImplied live old.entries more

-- a fixpoint of unit propagation: under the trail no live clause is false or unit
abbrev pub IsFixpoint : Live → List Assigned → Type 0
IsFixpoint live entries = NoneFalseOrUnit live (holds entries)

-- a conflict: under the trail a live clause of this number is false
abbrev pub IsConflict : Live → List Assigned → ℕ → Type 0
IsConflict live entries n = (C : Clause) × live n C × IsFalse (holds entries) C

-- two clauses have the same literals, perhaps in another order, and the same length
pub record IsReordered (C D : Clause) : Type 0 where
  pub len : length D ≡ length C
  pub literals : (l : Literal) → Contains C l ↔ Contains D l

-- the list `new` has the numbers of `old` except n
abbrev pub AreWithout : List ℕ → ℕ → List ℕ → Type 0
AreWithout old n new = (k : ℕ) → Contains new k ↔ (Contains old k × (k ≢ n))

-- an arena, before and after: it has the same clauses at the same offsets, each perhaps with its literals in another order
pub record SameUpToOrder (old new : Clauses) : Type 0 where
  pub there : (n p : ℕ) (C : Clause) → get old n ≡ Some (p, C) → (D : Clause) × (get new n ≡ Some (p, D)) × IsReordered C D
  pub none : (n : ℕ) → get old n ≡ None → get new n ≡ None

-- an entry without its reason
abbrev pub bare : Assigned → Assigned
bare e = record e { reason = None }

-- two trails have the same literals at the same levels, perhaps for other reasons
abbrev pub SameUpToReasons : List Assigned → List Assigned → Type 0
SameUpToReasons old new = map bare new ≡ map bare old

-- a trail, before and after: the reason of the entry of literal l is changed to the clause of this number, and nothing else
pub record IsExplained (old new : List Assigned) (l : Literal) (number : ℕ) : Type 0 where
  pub front : List Assigned
  pub entry : Assigned
  pub rest : List Assigned
  pub literal : entry.literal ≡ l
  pub before : old ≡ front ++ entry ∷ rest
  pub after : new ≡ front ++ (record entry { reason = Some number }) ∷ rest
