-- Marks of literals.
use Rattle.std.specs.Prelude.{◌≡◌, ℕ, List, slice_index_or, Contains, ◌↔◌}
use Rattle.std.specs.List.{IsDistinct}
use Rattle.dimacs.specs.logic.Literal.{Literal, Clause, index_of, same}
use Rattle.cube_solve.specs.Subsequences.{IsSubsequenceOf}
use Rattle.cube_solve.specs.inner.Twins.{AreTwins}

-- `kept` has the literals that were seen, each once, in the order of the first occurrences, and exactly these have the stamp
pub record AreMarks (seen kept : Clause) (stamps : List ℕ) (stamp : ℕ) : Type 0 where
  pub stamped : (l : Literal) → (slice_index_or stamps (index_of l) 0 ≡ stamp) ↔ Contains kept l
  pub twins : AreTwins seen kept
  pub distinct : IsDistinct same kept
  pub part : IsSubsequenceOf kept seen
