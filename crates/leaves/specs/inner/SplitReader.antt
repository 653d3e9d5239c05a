-- The bytes that the reader of a formula's tree has read.
use Rattle.std.specs.Prelude.{ℕ, List}
use Rattle.dimacs.specs.logic.Cnf.{Cnf}
use Rattle.dimacs.specs.logic.Limits.{Limits}
use Rattle.icnf.specs.Pieces.{Progress, HasReadWithin}

-- the reader has read some bytes of a text within some limits for this formula
abbrev pub HasReadSomeText : Cnf → Progress → Type 0
HasReadSomeText F p = (L : Limits) × (bytes : List ℕ) × HasReadWithin L F p bytes
