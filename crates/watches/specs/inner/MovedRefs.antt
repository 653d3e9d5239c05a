-- How references are updated after clauses moved. A move is a pair of references to a clause, the old one and the new one.
use Rattle.std.specs.Prelude.{◌≡◌, ◌≢◌, ℕ, ◌<◌, List, length, slice_index_or, Contains, ◌⊎◌}
use Rattle.clause_arena.specs.declared.reference.Ref.{Ref}

-- the moves are in the order of the clauses' numbers
abbrev pub AreRising : List (Ref × Ref) → Type 0
AreRising moves = (i j : ℕ) (d : Ref × Ref) → i < j → j < length moves → (slice_index_or moves i d).0.number < (slice_index_or moves j d).0.number

-- no move is of the clause of number n
abbrev pub IsUnmoved : List (Ref × Ref) → ℕ → Type 0
IsUnmoved moves n = (from to : Ref) → Contains moves (from, to) → from.number ≢ n

-- some move takes the clause of number n to the reference `to`
abbrev pub IsMovedTo : List (Ref × Ref) → ℕ → Ref → Type 0
IsMovedTo moves n to = (from : Ref) × Contains moves (from, to) × (from.number ≡ n)

-- each move keeps the clause's number
abbrev pub KeepNumbers : List (Ref × Ref) → Type 0
KeepNumbers moves = (from to : Ref) → Contains moves (from, to) → to.number ≡ from.number

-- a reference, before and after: the new one is that of a move of its number, or the old one if there is none; the number stays, whatever
-- the moves are
pub record Follows (moves : List (Ref × Ref)) (old new : Ref) : Type 0 where
  pub number : new.number ≡ old.number
  pub follows : IsMovedTo moves old.number new ⊎ ((new ≡ old) × (AreRising moves → KeepNumbers moves → IsUnmoved moves old.number))

-- the references of a list, before and after: each is updated
pub record AreFollowed (moves : List (Ref × Ref)) (old new : List Ref) : Type 0 where
  pub long : length new ≡ length old
  pub each : (k : ℕ) (d : Ref) → k < length old → Follows moves (slice_index_or old k d) (slice_index_or new k d)
