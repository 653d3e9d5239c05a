-- A table of stamps as a partial assignment.
use Rattle.std.specs.Prelude.{ℕ, ◌<◌, List, slice_index}
use Rattle.dimacs.specs.logic.Propagation.{Assumed}
use Rattle.lrat_check.specs.inner.Marks.{assumed_by}

-- the literals that have this stamp in the table
abbrev pub marked : List ℕ → ℕ → Assumed
marked marks stamp = assumed_by marks stamp stamp

-- each stamp of the table is below n
abbrev pub AllBelow : ℕ → List ℕ → Type 0
AllBelow n marks = (i : ℕ) → slice_index marks i < n
