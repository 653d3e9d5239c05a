-- How many calls of its links a run makes, by the status of its report.
use Rattle.std.specs.Prelude.{◌≡◌, ℕ, ◌⊎◌}
use Rattle.runs.specs.Accounts.{RoseBy}
use Rattle.reports.specs.declared.report.Report.{Report}

-- The calls of a run in rounds, from the count `old` to `new`: none if the input or the cubes were refused, at least one if nothing was
-- found, and at least three if the report decides the formula.
pub record WasRun (old new : ℕ) (r : Report) : Type 0 where
  pub refused : r.status ≡ 1 → new ≡ old
  pub undecided : r.status ≡ 0 → RoseBy 1 old new
  pub decided : (r.status ≡ 10) ⊎ (r.status ≡ 20) → RoseBy 3 old new

-- The calls of a run whose links come and go, from the count `old` to `new`: none if the input or the cubes were refused, at least one if
-- nothing was found, and at least two if the report decides the formula.
pub record WasServed (old new : ℕ) (r : Report) : Type 0 where
  pub refused : r.status ≡ 1 → new ≡ old
  pub undecided : r.status ≡ 0 → RoseBy 1 old new
  pub decided : (r.status ≡ 10) ⊎ (r.status ≡ 20) → RoseBy 2 old new
