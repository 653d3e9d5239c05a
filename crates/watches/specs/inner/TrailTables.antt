-- The tables of a trail: the truth of each literal by its index, and the index of each variable's entry.
use Rattle.std.specs.Prelude.{◌≡◌, ℕ, ◌+◌, ◌*◌, ◌<◌, ◌≤◌, List, length, slice_index, slice_index_or, if◌then◌else◌, nat_eq, All}
use Rattle.std.specs.List.{IsDistinct}
use Rattle.dimacs.specs.logic.Literal.{Literal, IsWithin, var_of, index_of, negation}
use Rattle.watches.specs.Trails.{holds, variables}
use Rattle.watches.specs.declared.trail.Assigned.{Assigned}
use Rattle.watches.specs.declared.truth.Truth.{Truth}
use Rattle.watches.specs.declared.truth.Truth.TheVariants.{Free, True, False}

-- the truth value of a literal under the entries
abbrev pub truth_of : List Assigned → Literal → Truth
truth_of entries l = if holds entries l then True else (if holds entries (negation l) then False else Free)

-- the invariant of a trail's tables: no two entries of one variable, levels that never fall, tables that agree with the entries, and room
-- for an entry of each variable
pub record IsTrail (vars : ℕ) (entries : List Assigned) (values : List Truth) (places : List ℕ) (room : ℕ) : Type 0 where
  pub valued : length values ≡ 2 * vars + 2
  pub placed : length places ≡ vars + 1
  pub agrees : (l : Literal) → IsWithin vars l → slice_index_or values (index_of l) Free ≡ truth_of entries l
  pub within : All (λ e. IsWithin vars e.literal) entries
  pub apart : IsDistinct nat_eq (variables entries)
  pub rising : (i j : ℕ) (d : Assigned) → i ≤ j → j < length entries → (slice_index_or entries i d).level ≤ (slice_index_or entries j d).level
  pub found : (i : ℕ) (d : Assigned) → i < length entries → slice_index places (var_of (slice_index_or entries i d).literal) ≡ i
  pub fits : vars ≤ room
