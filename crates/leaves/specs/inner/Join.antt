-- What private calls say of a join.
use Rattle.std.specs.Prelude.{◌≡◌, ◌≢◌, ℕ, ◌<◌, ◌^◌, Bool, true, false, List, ◌∷◌, ◌++◌, length, codes, if◌then◌else◌}
use Rattle.dimacs.specs.logic.Cnf.{Cnf}
use Rattle.log_join.specs.ClosedLeaves.{Leaf, open_from}
use Rattle.icnf.specs.Leaves.{Cube}
use Rattle.leaves.specs.Join.{FitsFirstByte, HasGatheredLogs}
use Rattle.leaves.specs.Notes.{missing_text}
use Rattle.leaves.specs.declared.file_outcome.FileOutcome.{FileOutcome}
use Rattle.leaves.specs.declared.file_outcome.FileOutcome.TheVariants as ended
use Rattle.leaves.specs.declared.join.Join.{Join}
use Rattle.leaves.specs.declared.join.FileState.{FileState}
use Rattle.leaves.specs.declared.join.FileState.TheVariants.{Refused}
use Rattle.leaves.specs.declared.checked_lines.LineFault.{LineFault}
use Rattle.leaves.specs.declared.checked_lines.LineFault.TheVariants.{Log, Gather}
use Rattle.leaves.specs.declared.checked_lines.CheckedLines.{CheckedLines}
use Rattle.leaves.specs.inner.CheckedLines.{EndsLog}
use Rattle.lrat_check.specs.ProofFaults.{no_memory}
use Rattle.reports.specs.declared.report.Report.{Report}

-- if the join has gathered some files and bytes (`HasGatheredLogs`) before the call, it has gathered the same files and bytes after it
abbrev pub KeepsJoined : Join → Join → Type 0
KeepsJoined old new =
    (F : Cnf) (cubes : List Cube) (files : List (List ℕ)) (bytes written : List ℕ) → HasGatheredLogs F cubes files bytes written old → HasGatheredLogs F cubes files bytes written new

-- if the join has gathered some files and bytes (`HasGatheredLogs`) before the call, it has gathered these files, and these bytes and then
-- the piece, after it
abbrev pub JoinsPiece : List ℕ → Join → Join → Type 0
JoinsPiece piece old new =
    (F : Cnf) (cubes : List Cube) (files : List (List ℕ)) (bytes written : List ℕ) → HasGatheredLogs F cubes files bytes written old → HasGatheredLogs F cubes files (bytes ++ piece) written new

-- first byte, the states before and after: the new state is that of a file with this first byte, or still fits the file if the file had
-- begun before
abbrev pub OpensAs : ℕ → FileState → FileState → Type 0
OpensAs first old new = (bytes rest : List ℕ) → FitsFirstByte old bytes → FitsFirstByte new (bytes ++ first ∷ rest)

-- the states before and after: the new state fits the file's first bytes if the old one does
abbrev pub StaysAs : FileState → FileState → Type 0
StaysAs old new = (bytes : List ℕ) → FitsFirstByte old bytes → FitsFirstByte new bytes

-- fault of a line, the joins before and after: the line of a log is refused, and its fault is kept in the join's state
abbrev pub IsStopped : LineFault → Join → Join → Type 0
IsStopped (Log fault) old new = (fault ≢ no_memory) × (new ≡ record old { reading = Refused fault })
IsStopped (Gather fault) old new = ⊥

-- the lines before and after, the outcome: a log without fault is ended, and the outcome says whether it closes a leaf that no log before
-- it closes
abbrev pub EndsAccepted : CheckedLines → CheckedLines → FileOutcome → Type 0
EndsAccepted old new e = (b : Bool) × EndsLog true old new b × (e ≡ (if b then ended.Closes else ended.ClosesNothing))

-- the lines before and after: a log is ended whose lemmas close nothing
abbrev pub EndsUnused : CheckedLines → CheckedLines → Type 0
EndsUnused old new = (b : Bool) × EndsLog false old new b

-- the report, status 0: the notes, a line for each open one of these leaves, and `s UNKNOWN`
pub record ReportsMissing (notes : List ℕ) (leaves : List Leaf) (r : Report) : Type 0 where
  pub status : r.status ≡ 0
  pub text : length leaves < 2 ^ 64 → r.stdout.items ≡ (notes ++ missing_text (open_from 0 leaves)) ++ codes "s UNKNOWN\n"
