-- How the variables lie in a binary heap. A variable is its row in the tables here: its number less 1.
use Rattle.std.specs.Prelude.{◌≡◌, ◌≢◌, ℕ, ◌-◌, ◌/◌, ◌^◌, ◌<◌, ◌≤◌, List, length, slice_index, slice_set, vec_capacity}
use Rattle.decide_heap.specs.Decisions.{Decisions, IsNoWorse}
use Rattle.decide_heap.specs.Heap.{members_of}
use Rattle.decide_heap.specs.declared.rows.Rows.{Rows}

-- the tables of a heap: the rows in their order, the index of each row in it, the score of each row, and the number of rows that are in the
-- heap
pub record Tables : Type 0 where
  pub heap : List ℕ
  pub places : List ℕ
  pub scores : List ℕ
  pub len : ℕ

-- the value of the tables
abbrev pub tables_of : Rows → Tables
tables_of r = record { heap = r.heap.items; places = r.places.items; scores = r.scores.items; len = r.len }

-- the value of the tables as callers see it
abbrev pub decisions_of : Tables → Decisions
decisions_of t = record { vars = length t.scores; scores = t.scores; members = members_of t.places t.len }

-- the tables with row `var` at index `at` of the heap
abbrev pub filled : Tables → ℕ → ℕ → Tables
filled t at var = record t { heap = slice_set t.heap at var; places = slice_set t.places var at }

-- the index of the parent in a binary heap
abbrev pub parent : ℕ → ℕ
parent c = (c - 1) / 2

-- `heap` is a permutation of the rows, and `places` is its inverse
pub record ArePaired (heap places : List ℕ) : Type 0 where
  pub long : length places ≡ length heap
  pub variable : (i : ℕ) → i < length heap → slice_index heap i < length heap
  pub place : (i : ℕ) → i < length heap → slice_index places (slice_index heap i) ≡ i
  pub within : (v : ℕ) → v < length heap → slice_index places v < length heap
  pub there : (v : ℕ) → v < length heap → slice_index heap (slice_index places v) ≡ v

-- the lists are the same, except that the entries at i and j are exchanged
pub record AreSwapped (old new : List ℕ) (i j : ℕ) : Type 0 where
  pub first : slice_index new i ≡ slice_index old j
  pub second : slice_index new j ≡ slice_index old i
  pub others : (k : ℕ) → k ≢ i → k ≢ j → slice_index new k ≡ slice_index old k

-- the variable at index i of the heap is no worse than that at index j
abbrev pub IsOver : List ℕ → List ℕ → ℕ → ℕ → Type 0
IsOver scores heap i j = IsNoWorse (slice_index scores) (slice_index heap i) (slice_index heap j)

-- the heap order at each index below len whose parent is at `from` or later: the parent's variable is no worse
pub record IsOrdered (scores heap : List ℕ) (len from : ℕ) : Type 0 where
  pub below : (c : ℕ) → 0 < c → c < len → from ≤ parent c → IsOver scores heap (parent c) c

-- the heap order of tables at each index whose parent is at `from` or later
abbrev pub IsOrderedFrom : Tables → ℕ → Type 0
IsOrderedFrom t from = IsOrdered t.scores t.heap t.len from

-- the heap order, except that the variable at index `at` may be better than its ancestors
pub record IsRising (scores heap : List ℕ) (len at : ℕ) : Type 0 where
  pub others : (c : ℕ) → 0 < c → c < len → c ≢ at → IsOver scores heap (parent c) c
  pub across : (c : ℕ) → 0 < c → c < len → parent c ≡ at → 0 < at → IsOver scores heap (parent at) c

-- the heap order of tables, except that the variable at index `at` may be better than its ancestors
abbrev pub IsRisingAt : Tables → ℕ → Type 0
IsRisingAt t at = IsRising t.scores t.heap t.len at

-- the invariant of tables: each variable has a row in each table and an index in the heap
pub record AreRows (t : Tables) : Type 0 where
  pub limit : length t.scores < 2 ^ 31
  pub size : length t.heap ≡ length t.scores
  pub count : t.len ≤ length t.scores
  pub paired : ArePaired t.heap t.places

-- the invariant of tables between two calls: each variable has its row and index, and the first len indices are in heap order
pub record IsHeap (t : Tables) : Type 0 where
  pub rows : AreRows t
  pub ordered : IsOrderedFrom t 0

-- tables, before and after: only the indices of rows changed
pub record AreMoved (old new : Tables) : Type 0 where
  pub long : length new.heap ≡ length old.heap
  pub rest : new ≡ record old { heap = new.heap; places = new.places }

-- each table has memory for this number of rows
pub record HaveRoom (r : Rows) (rows : ℕ) : Type 0 where
  pub heap : rows ≤ vec_capacity r.heap
  pub places : rows ≤ vec_capacity r.places
  pub scores : rows ≤ vec_capacity r.scores
