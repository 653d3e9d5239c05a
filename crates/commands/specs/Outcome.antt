-- What is printed at the end of a run, and its status.
use Rattle.std.specs.Borrow.{Bor}
use Rattle.std.specs.Prelude.{ℕ, List, Result, Ok, Err}
use Rattle.reports.specs.declared.report.Report.{Report}

-- what is printed at the end of a run: the text of the report, or the line of a run without one
abbrev pub printed : Result Report (Bor (List ℕ)) → List ℕ
printed (Ok r) = r.stdout.items
printed (Err line) = line.now

-- the exit status of a run: that of the report, or 1 without one
abbrev pub ends_with : Result Report (Bor (List ℕ)) → ℕ
ends_with (Ok r) = r.status
ends_with (Err line) = 1
