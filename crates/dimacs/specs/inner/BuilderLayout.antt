-- The layout of a builder's lists.
use Rattle.std.specs.Prelude.{◌≡◌, ℕ, ◌+◌, ◌<◌, ◌≤◌, ◌^◌, List, length, slice_index, All}
use Rattle.dimacs.specs.layout.Flat.{ArePlaces}
use Rattle.dimacs.specs.logic.Cnf.{greatest_of}
use Rattle.dimacs.specs.logic.Limits.{large}
use Rattle.dimacs.specs.logic.Literal.{Clause, IsWithin}

-- the invariant of a builder's fields: the lists are within the limits, the offsets begin at 0 and do not fall, and greatest is the
-- greatest variable of the literals
pub record IsLaid (literals : Clause) (places : List ℕ) (greatest : ℕ) : Type 0 where
  pub total : length literals ≤ large.literals
  pub count : length places ≤ large.clauses + 1
  pub rise : ArePlaces places (length literals)
  pub first : slice_index places 0 ≡ 0
  pub within : All (IsWithin greatest) literals
  pub top : greatest ≡ greatest_of literals
  pub limit : greatest < 2 ^ 31
