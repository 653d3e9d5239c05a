-- Tables of stamps between two lines.
use Rattle.std.specs.Prelude.{ℕ, ◌≤◌, vec_len}
use Rattle.proof_lift.specs.inner.Tables.{AllBelow}
use Rattle.proof_lift.specs.declared.scratch.Scratch.{Scratch}

-- each stamp of both tables is below n
pub record IsClean (n : ℕ) (s : Scratch) : Type 0 where
  pub marks : AllBelow n s.marks.items
  pub used : AllBelow n s.used.items

-- no table has become shorter
pub record Roomier (old new : Scratch) : Type 0 where
  pub marks : vec_len old.marks ≤ vec_len new.marks
  pub used : vec_len old.used ≤ vec_len new.used
