-- Clauses whose literals lie one after the other in one list, found by slots: those of the near table, which is indexed by number, and
-- those of the far table, a list with a map from numbers to its indices.
use Rattle.std.specs.Prelude.{◌≡◌, ℕ, ◌+◌, ◌<◌, ◌≤◌, List, [], ◌∷◌, ◌++◌, length, take, drop, Option, Some, None, option_map, slice_index, slice_index_or}
use Rattle.std.specs.FinMap.{from_entries}
use Rattle.std.specs.List.{enumerate_from}
use Rattle.std.specs.Ordering.{nat_cmp}
use Rattle.std.specs.BTreeMap as tree
use Rattle.dimacs.specs.logic.Literal.{Literal, Clause}
use Rattle.dimacs.specs.logic.ClauseMap.{ClauseMap}
use Rattle.dimacs.specs.layout.Flat.{parts}
use Rattle.lrat_check.specs.declared.slot.Slot.{Slot}
use Rattle.lrat_check.specs.declared.slot_tables.Far.{Far}
use Rattle.lrat_check.specs.declared.slot_tables.SlotTables.{SlotTables}

-- the clause of the slot s: the literals that lie there
abbrev pub clause_at : List Literal → Slot → Clause
clause_at literals s = take s.len (drop s.place literals)

-- the clauses of a list of cells with their numbers: number gives the number of each index, and the first cell has the index n
abbrev pub entries_of : List Literal → (ℕ → ℕ) → ℕ → List (Option Slot) → List (ℕ × Clause)
entries_of literals number n [] = []
entries_of literals number n (None ∷ slots) = entries_of literals number (n + 1) slots
entries_of literals number n (Some s ∷ slots) = (number n, clause_at literals s) ∷ entries_of literals number (n + 1) slots

-- the clauses of the near table, each with its number, which is its index
abbrev pub near_entries : List Literal → List (Option Slot) → List (ℕ × Clause)
near_entries literals near = entries_of literals (λ n. n) 0 near

-- the clauses of the far table, each with its number
abbrev pub far_entries : List Literal → Far → List (ℕ × Clause)
far_entries literals far = entries_of literals (λ p. slice_index far.numbers.items p) 0 far.slots.items

-- the index of the cell of the number q in the far table
abbrev pub place_of : Far → ℕ → Option ℕ
place_of far q = tree.get nat_cmp far.places q

-- the literals of all clauses, the cells of the near table, and the far table
pub record Tables : Type 0 where
  pub literals : List Literal
  pub near : List (Option Slot)
  pub far : Far

-- the tables with these literals, cells of the near table, and far table
abbrev pub tables : List Literal → List (Option Slot) → Far → Tables
tables literals near far = record { literals = literals; near = near; far = far }

-- the tables from the fields of a SlotTables
abbrev pub tables_of : SlotTables → Tables
tables_of t = tables t.literals.items t.near t.far

-- the live clauses of the near and the far table
abbrev pub live_of : Tables → ClauseMap
live_of t = from_entries (near_entries t.literals t.near ++ far_entries t.literals t.far)

-- the value of a store: the literals of all clauses, also dead ones, and the live clauses
pub record Stored : Type 0 where
  pub literals : List Literal
  pub live : ClauseMap

-- the clauses of the list F, each with its number, from 1
abbrev pub numbered_entries : List Clause → List (ℕ × Clause)
numbered_entries F = enumerate_from 1 F

-- the clauses of the list F as live clauses, numbered from 1
abbrev pub numbered : List Clause → ClauseMap
numbered F = from_entries (numbered_entries F)

-- the slot s lies within the literals
abbrev pub IsPlaced : List Literal → Slot → Type 0
IsPlaced literals s = s.place + s.len ≤ length literals

-- each slot of a list of cells lies within the literals
abbrev pub ArePlaced : List Literal → List (Option Slot) → Type 0
ArePlaced literals slots = (p : ℕ) (s : Slot) → slice_index_or slots p None ≡ Some s → IsPlaced literals s

-- each slot that lies within the literals old lies within the literals new, and has the same clause there
abbrev pub Keeps : List Literal → List Literal → Type 0
Keeps old new = (s : Slot) → IsPlaced old s → IsPlaced new s × (clause_at new s ≡ clause_at old s)

-- at each index the two lists of cells have the same clause, or both none; the slots of each list are those of its own literals
abbrev pub SameClauses : List Literal → List (Option Slot) → List Literal → List (Option Slot) → Type 0
SameClauses literals slots literals' slots' =
    (p : ℕ) → option_map (clause_at literals') (slice_index_or slots' p None) ≡ option_map (clause_at literals) (slice_index_or slots p None)

-- the cells slots' have the clauses of the cells slots, index by index, copied from literals to literals'
pub record AreCopied (literals : List Literal) (slots : List (Option Slot)) (literals' : List Literal) (slots' : List (Option Slot)) : Type 0 where
  pub len : length slots' ≡ length slots
  pub clauses : SameClauses literals slots literals' slots'
  pub placed : ArePlaced literals' slots'

-- The invariant of a store: each slot lies within the literals, and the map of the far table gives exactly the indices of the cells of its
-- numbers, none of which is below the length of the near table.
pub record IsStore (t : Tables) : Type 0 where
  pub near_placed : ArePlaced t.literals t.near
  pub far_placed : ArePlaced t.literals t.far.slots.items
  pub level : length t.far.numbers.items ≡ length t.far.slots.items
  pub found : (q p : ℕ) → place_of t.far q ≡ Some p → (slice_index t.far.numbers.items p ≡ q) × (p < length t.far.slots.items) × (length t.near ≤ q)
  pub kept : (p : ℕ) (s : Slot) → slice_index_or t.far.slots.items p None ≡ Some s → place_of t.far (slice_index t.far.numbers.items p) ≡ Some p

-- The near table is that of a list of cells: no slot at index 0, and then the slots of the first count clauses, numbered from 1, that begin
-- at the indices places of the literals.
pub record IsFilledTo (literals : List Literal) (places : List ℕ) (count : ℕ) (near : List (Option Slot)) : Type 0 where
  pub slots : List (Option Slot)
  pub many : length slots ≡ count + 1
  pub entries : near_entries literals slots ++ enumerate_from (count + 1) (parts literals (drop count places)) ≡ numbered_entries (parts literals places)
  pub placed : ArePlaced literals slots
  pub same : (q : ℕ) → slice_index_or near q None ≡ slice_index_or slots q None

-- The near table is that of a list of cells: the slots of all clauses, numbered from 1, that begin at the indices places of the literals.
pub record IsFilled (literals : List Literal) (places : List ℕ) (near : List (Option Slot)) : Type 0 where
  pub slots : List (Option Slot)
  pub entries : near_entries literals slots ≡ numbered_entries (parts literals places)
  pub placed : ArePlaced literals slots
  pub same : (q : ℕ) → slice_index_or near q None ≡ slice_index_or slots q None
