-- Compaction of an arena: which clauses move, and what is reported of them.
use Rattle.std.specs.Prelude.{◌≡◌, ◌≢◌, ℕ, ◌+◌, ◌<◌, ◌≤◌, List, Option, Some, length, option_map, slice_index_or, Contains, sum_by}
use Rattle.std.specs.FinMap.{get, entries}
use Rattle.dimacs.specs.logic.Literal.{Clause}
use Rattle.clause_arena.specs.declared.reference.Ref.{Ref}
use Rattle.clause_arena.specs.Clauses.{Clauses, RefersTo}

-- the literals of the live clause of number n; none if there is none
abbrev pub literals_of : Clauses → ℕ → Option Clause
literals_of m n = option_map (λ (c : ℕ × Clause). c.1) (get m n)

-- the sum of the lengths of the live clauses
abbrev pub literals_in : Clauses → ℕ
literals_in m = sum_by (λ (e : ℕ × (ℕ × Clause)). length e.1.1) (entries m)

-- a clause has moved: `from` refers to it before and `to` after, at another offset, under the same number
pub record HasMoved (old new : Clauses) (from to : Ref) : Type 0 where
  pub literals : Clause
  pub number : to.number ≡ from.number
  pub before : RefersTo old from literals
  pub after : RefersTo new to literals
  pub elsewhere : from.place ≢ to.place

-- an arena, before and after: it has the same clauses, without gaps; `moves` has exactly the old and the new reference of each clause whose
-- offset changed, in the order of clause numbers
pub record IsCompacted (old new : Clauses) (moves : List (Ref × Ref)) : Type 0 where
  pub kept : (n : ℕ) → literals_of new n ≡ literals_of old n
  pub told : (from to : Ref) → Contains moves (from, to) → HasMoved old new from to
  pub all : (from to : Ref) → HasMoved old new from to → Contains moves (from, to)
  pub rising : (i j : ℕ) (d : Ref × Ref) → i < j → j < length moves → (slice_index_or moves i d).0.number < (slice_index_or moves j d).0.number
  pub closed : (n p : ℕ) (C : Clause) → get new n ≡ Some (p, C) → p + length C ≤ literals_in old
