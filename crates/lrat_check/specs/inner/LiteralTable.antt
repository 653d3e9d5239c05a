-- Tables that are indexed by literal: stamps and counts.
use Rattle.std.specs.Prelude.{◌≡◌, ℕ, ◌+◌, ◌*◌, ◌<◌, List, [], ◌∷◌, All, Option, Some, None, slice_index, slice_index_or, length, if◌then◌else◌}
use Rattle.dimacs.specs.logic.Literal.{Literal, var_of, index_of, Clause, has}
use Rattle.std.specs.FinMap.{get}
use Rattle.dimacs.specs.logic.ClauseMap.{ClauseMap}
use Rattle.lrat_check.specs.inner.HolderCount.{holder_count}
use Rattle.lrat_check.specs.declared.slot.Slot.{Slot}
use Rattle.lrat_check.specs.inner.Store.{clause_at}

-- a table of this length has an entry for each literal of the clause C and for its negation
abbrev pub FitsTable : ℕ → Clause → Type 0
FitsTable places C = All (λ l. 2 * var_of l + 1 < places) C

-- a table of this length has an entry for each literal of each live clause and for its negation
abbrev pub AllFit : ℕ → ClauseMap → Type 0
AllFit places M = (id : ℕ) (C : Clause) → get M id ≡ Some C → FitsTable places C

-- each literal's count is the number of live clauses M that hold it
abbrev pub CountsAll : List ℕ → ClauseMap → Type 0
CountsAll counts M = (l : Literal) → slice_index counts (index_of l) ≡ holder_count M l

-- 1 if the clause C holds the literal l, otherwise 0
abbrev pub one_if_has : Clause → Literal → ℕ
one_if_has C l = if has C l then 1 else 0

-- the table new is the table old, except that the count of each literal of the clause C is greater by more
abbrev pub AreRaised : Clause → ℕ → List ℕ → List ℕ → Type 0
AreRaised C more old new = (l : Literal) → slice_index new (index_of l) ≡ slice_index old (index_of l) + one_if_has C l * more

-- 1 if the cell has a slot whose clause holds the literal l, otherwise 0
abbrev pub one_held : List Literal → Option Slot → Literal → ℕ
one_held literals None l = 0
one_held literals (Some s) l = one_if_has (clause_at literals s) l

-- the number of cells that have a slot whose clause holds the literal l
abbrev pub held : List Literal → List (Option Slot) → Literal → ℕ
held literals [] l = 0
held literals (o ∷ slots) l = one_held literals o l + held literals slots l

-- a table of this length has an entry for each literal of the clause of each slot, and for its negation
abbrev pub SlotsFit : ℕ → List Literal → List (Option Slot) → Type 0
SlotsFit places literals slots = (p : ℕ) (s : Slot) → slice_index_or slots p None ≡ Some s → FitsTable places (clause_at literals s)

-- the counts are those of the live clauses M, and there is one for each of their literals and for its negation
pub record IsCounted (M : ClauseMap) (counts : List ℕ) : Type 0 where
  pub fits : AllFit (length counts) M
  pub counted : CountsAll counts M
