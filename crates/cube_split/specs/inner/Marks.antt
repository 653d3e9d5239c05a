-- Tables of marks by literal, and of counts by variable.
use Rattle.std.specs.Prelude.{◌≡◌, ℕ, ◌+◌, ◌<◌, ◌≤◌, ◌*◌, Bool, false, List, [], ◌∷◌, Option, Some, None, ◌⊎◌, length, slice_index, slice_index_or, slice_get}
use Rattle.dimacs.specs.logic.Literal.{Literal, literal_of, var_of}
use Rattle.cube_split.specs.declared.pair.Pair.{Pair}

-- a table has for each literal whether the test holds of it; the literals of variable v are at 2 * v (positive) and 2 * v + 1
pub record AreMarked (marks : List Bool) (test : Literal → Bool) : Type 0 where
  pub marked : (k : ℕ) → k < length marks → slice_index_or marks k false ≡ test (literal_of k)

-- a variable's property: neither literal of it is marked
pub record IsUnmarked (marks : List Bool) (v : ℕ) : Type 0 where
  pub positive : slice_index_or marks (2 * v) false ≡ false
  pub negative : slice_index_or marks (2 * v + 1) false ≡ false

-- a variable's property: of those from 1 to last that are not marked, v has the greatest count, above 0, and of several it is the lowest
pub record IsGreatest (marks : List Bool) (counts : List ℕ) (last v : ℕ) : Type 0 where
  pub above : 0 < v
  pub below : v ≤ last
  pub unmarked : IsUnmarked marks v
  pub some : 0 < slice_index counts v
  pub most : (w : ℕ) → 0 < w → w ≤ last → IsUnmarked marks w → slice_index counts w ≤ slice_index counts v
  pub lowest : (w : ℕ) → 0 < w → w ≤ last → IsUnmarked marks w → slice_index counts w ≡ slice_index counts v → v ≤ w

-- v is ahead of w: it has the greater count, or the same and the lower number
abbrev pub IsAhead : List ℕ → ℕ → ℕ → Type 0
IsAhead counts v w = (slice_index counts w < slice_index counts v) ⊎ ((slice_index counts v ≡ slice_index counts w) × (v < w))

-- v is ahead of the best variable so far; if there is none, its count is above 0
abbrev pub IsAheadOf : List ℕ → ℕ → Option ℕ → Type 0
IsAheadOf counts v None = 0 < slice_index counts v
IsAheadOf counts v (Some w) = IsAhead counts v w

-- the defined variable of pair i, from 0, is undecided by the marks: no literal of it is marked, nor of the variables of its pair
pub record IsUndecidedBy (marks : List Bool) (vars : ℕ) (pairs : List Pair) (i : ℕ) : Type 0 where
  pub pair : Pair
  pub there : slice_get pairs i ≡ Some pair
  pub itself : IsUnmarked marks (vars + 1 + i)
  pub first : IsUnmarked marks (var_of pair.first)
  pub second : IsUnmarked marks (var_of pair.second)

-- the literals of these pairs
abbrev pub literals_of : List Pair → List Literal
literals_of [] = []
literals_of (p ∷ pairs) = p.first ∷ p.second ∷ literals_of pairs
