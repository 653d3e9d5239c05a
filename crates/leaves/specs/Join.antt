-- A join of logs over a formula: the outcome of a file, the files and bytes that the join has read, and its report.
use Rattle.std.specs.Prelude.{◌≡◌, ◌⊎◌, ◌↔◌, ℕ, ◌<◌, ◌^◌, ◌==◌, ◌||◌, Bool, true, false, MatchBool, List, [], ◌∷◌, ◌++◌, Option, Some, None, Result, Ok, Err, Contains, length, map, codes}
use Rattle.std.specs.Str.{byte}
use Rattle.answers.specs.Faults.{number_of_kind}
use Rattle.answers.specs.Pieces.{Progress, HasRead}
use Rattle.answers.specs.Parse.{answer_of}
use Rattle.answers.specs.Reports.{first_missed}
use Rattle.answers.specs.declared.fault.AnswerFault.{AnswerFault}
use Rattle.dimacs.specs.logic.Cnf.{Cnf, Sat, assignment_of}
use Rattle.dimacs.specs.logic.Propagation.{Assumed}
use Rattle.log_join.specs.ClosedLeaves.{Leaf, is_closed, open_from}
use Rattle.log_join.specs.JoinedLogs.{ClosesLeaf, Handed, IsClosedBy}
use Rattle.icnf.specs.Leaves.{Cube}
use Rattle.leaves.specs.CheckedLines.{IsBetweenLogs, IsWithinLog}
use Rattle.leaves.specs.Notes.{missing_text}
use Rattle.leaves.specs.declared.file_outcome.FileOutcome.{FileOutcome}
use Rattle.leaves.specs.declared.file_outcome.FileOutcome.TheVariants as ended
use Rattle.leaves.specs.declared.join.Join.{Join}
use Rattle.leaves.specs.declared.join.FileState.{FileState}
use Rattle.leaves.specs.declared.join.FileState.TheVariants.{Begun, Log, Refused, Answer}
use Rattle.leaves.specs.declared.checked_lines.CheckedLines.{CheckedLines}
use Rattle.lrat_check.specs.Logs.{IsBegun, LogState, TakesLogLine, log_of}
use Rattle.lrat_check.specs.declared.line_checker.CheckFault.{CheckFault}
use Rattle.lrat_text.specs.Grammar.{LineSpellsWithin}
use Rattle.lrat_text.specs.Log.{IsLog, log_top}
use Rattle.lrat_text.specs.Proof.{Accepts}
use Rattle.lrat_text.specs.LineSink.{HandsOn}
use Rattle.lrat_text.specs.declared.step.Step.{Step}
use Rattle.proof_join.specs.RenumberedProof.{RefutesByRup}
use Rattle.reports.specs.declared.report.Report.{Report}

-- ---- files
-- a byte with which a line of a solver's answer may begin, and no line of a log: `c`, `s` or `v`
abbrev pub is_answer_letter : ℕ → Bool
is_answer_letter b = b == byte "c" || b == byte "s" || b == byte "v"

-- a file is read as a solver's answer if its first byte is `c`, `s` or `v`, and else as a log
abbrev pub is_answer : List ℕ → Bool
is_answer [] = false
is_answer (b ∷ bs) = is_answer_letter b

-- formula, cube of the leaf, text of a file: the text is a log over the formula, and at its end a lemma of the log is live that closes the
-- leaf
pub record ClosesAsLog (F : Cnf) (q : Cube) (text : List ℕ) : Type 0 where
  pub steps : List Step
  pub spells : LineSpellsWithin (log_top F) text steps
  pub is_log : IsLog F steps
  pub closes : ClosesLeaf F q steps

-- formula, files, cube of the leaf: one of the files is a log that closes the leaf
abbrev pub IsClosedByFile : Cnf → List (List ℕ) → Cube → Type 0
IsClosedByFile F files q = (text : List ℕ) × Contains files text × ClosesAsLog F q text

-- formula, cubes of the tree, files before, text of a file: the text is a log that closes a leaf which none of the files before it closes
abbrev pub ClosesNewLeaf : Cnf → List Cube → List (List ℕ) → List ℕ → Type 0
ClosesNewLeaf F cubes files text = (q : Cube) × Contains cubes q × ¬ (IsClosedByFile F files q) × ClosesAsLog F q text

-- formula, cubes of the tree, files: every leaf is closed by one of the files
abbrev pub AreClosed : Cnf → List Cube → List (List ℕ) → Type 0
AreClosed F cubes files = (q : Cube) → Contains cubes q → IsClosedByFile F files q

-- the leaves of the tree, each with a bool that is true exactly if one of the files closes the leaf
pub record LeavesClosedByFiles (F : Cnf) (cubes : List Cube) (files : List (List ℕ)) (leaves : List Leaf) : Type 0 where
  pub cubes_are : map (λ k. k.cube) leaves ≡ cubes
  pub closed : (k : Leaf) → Contains leaves k → (is_closed k ≡ true) ↔ IsClosedByFile F files k.cube

-- ---- the outcome of a file, after others
-- the outcome of a log, after the files before it, by the checker's answer: `Refused` with its first fault; or, if it has none, whether it
-- closes a leaf that none of the files before it closes
abbrev pub IsLogOutcome : (F : Cnf) (cubes : List Cube) (files : List (List ℕ)) (text : List ℕ) (checked : Result (Unit {0}) CheckFault) (e : FileOutcome) → Type 0
IsLogOutcome F cubes files text (Ok x) e = ((e ≡ ended.Closes) × ClosesNewLeaf F cubes files text) ⊎ ((e ≡ ended.ClosesNothing) × ¬ (ClosesNewLeaf F cubes files text))
IsLogOutcome F cubes files text (Err fault) e = e ≡ ended.Refused fault.line fault.number

-- the outcome of a solver's answer without a fault: the assignment satisfies the formula; or it makes no literal of clause `k` true, and
-- the outcome is `ClosesNothing`
abbrev pub IsNamedOutcome : Cnf → Option ℕ → FileOutcome → Type 0
IsNamedOutcome F None e = (values : List Bool) × (e ≡ ended.Satisfies values) × Sat (assignment_of values) F
IsNamedOutcome F (Some k) e = e ≡ ended.ClosesNothing

-- the outcome of a solver's answer: `Refused` with its first fault, or, if it has none, whether its assignment satisfies the formula
abbrev pub IsAnswerOutcome : Cnf → Result Assumed AnswerFault → FileOutcome → Type 0
IsAnswerOutcome F (Ok named) e = IsNamedOutcome F (first_missed named F) e
IsAnswerOutcome F (Err fault) e = e ≡ ended.Refused fault.line (number_of_kind fault.kind)

-- the outcome of a file, after the files before it: that of a solver's answer or that of a log, by its first byte
abbrev pub IsFileOutcome : (F : Cnf) (cubes : List Cube) (files : List (List ℕ)) (text : List ℕ) (e : FileOutcome) → Type 0
IsFileOutcome F cubes files text e = MatchBool (is_answer text) (IsAnswerOutcome F (answer_of text) e) (IsLogOutcome F cubes files text (log_of F text) e)

-- ---- what is read of a file
-- formula, cubes, the ended logs, `bytes` of the file that are read, `line`, bytes already handed out, the lines: the bytes are a log so
-- far; their whole lines are checked and written, and `line` has the bytes after the last LF
pub record HasReadLogSoFar (F : Cnf) (cubes : List Cube) (logs : List Handed) (bytes line written : List ℕ) (l : CheckedLines) : Type 0 where
  pub log : List Step
  pub within : IsWithinLog F cubes logs log written l
  pub front : List ℕ
  pub whole : bytes ≡ front ++ line
  pub spells : LineSpellsWithin (log_top F) front log
  pub first : LogState
  pub begun : IsBegun F first
  pub checked : HandsOn TakesLogLine first bytes l.checker line

-- formula, cubes, the ended logs, fault, `bytes` of the file that are read, bytes already handed out, the lines: the bytes are no log, and
-- this is the first fault of every text that begins with them; steps of the log may be written
pub record HasReadFaultyLog (F : Cnf) (cubes : List Cube) (logs : List Handed) (fault : CheckFault) (bytes written : List ℕ) (l : CheckedLines) : Type 0 where
  pub log : List Step
  pub within : IsWithinLog F cubes logs log written l
  pub faulty : (more : List ℕ) → log_of F (bytes ++ more) ≡ Err fault

-- formula, cubes, the ended logs, reader, `bytes` of the file that are read, `line`, bytes already handed out, the lines: the bytes are
-- those of a solver's answer, the reader has read them, and no log is being read
pub record HasReadAnswer (F : Cnf) (cubes : List Cube) (logs : List Handed) (reader : Progress) (bytes line written : List ℕ) (l : CheckedLines) : Type 0 where
  pub between : IsBetweenLogs F cubes logs written l
  pub no_line : line ≡ []
  pub read : HasRead reader bytes

-- formula, cubes, the ended logs, `bytes` of the file that are read, `line`, bytes already handed out, the lines: no byte of the file is
-- read, and no log is being read
pub record HasReadNothing (F : Cnf) (cubes : List Cube) (logs : List Handed) (bytes line written : List ℕ) (l : CheckedLines) : Type 0 where
  pub between : IsBetweenLogs F cubes logs written l
  pub no_line : line ≡ []
  pub no_byte : bytes ≡ []

-- the state, then the positions of `HasReadLogSoFar`: these bytes of the file are read, as the state says what the file is
abbrev pub HasReadPart : (state : FileState) (F : Cnf) (cubes : List Cube) (logs : List Handed) (bytes line written : List ℕ) (l : CheckedLines) → Type 0
HasReadPart Begun = HasReadNothing
HasReadPart Log = HasReadLogSoFar
HasReadPart (Refused fault) = λ F cubes logs bytes line written l. HasReadFaultyLog F cubes logs fault bytes written l
HasReadPart (Answer reader) = λ F cubes logs bytes line written l. HasReadAnswer F cubes logs reader bytes line written l

-- the list has a first byte, which is a letter of a solver's answer exactly if the bool is true
abbrev pub HasFirstByte : Bool → List ℕ → Type 0
HasFirstByte answer [] = ⊥
HasFirstByte answer (b ∷ bs) = is_answer_letter b ≡ answer

-- the state is that of a file with these first bytes
abbrev pub FitsFirstByte : FileState → List ℕ → Type 0
FitsFirstByte Begun bytes = bytes ≡ []
FitsFirstByte Log bytes = HasFirstByte false bytes
FitsFirstByte (Refused fault) bytes = HasFirstByte false bytes
FitsFirstByte (Answer reader) bytes = HasFirstByte true bytes

-- the positions of `HasReadFiles`: the whole proof so far is joined of logs over the formula, of which the last may not have ended; the
-- accepted logs close exactly the leaves that the files close
pub record HasGatheredLogs (F : Cnf) (cubes : List Cube) (files : List (List ℕ)) (bytes written : List ℕ) (j : Join) : Type 0 where
  pub formula : j.formula ≡ F
  pub few : length cubes < 2 ^ 64
  pub logs : List Handed
  pub closing : (q : Cube) → IsClosedBy F logs q ↔ IsClosedByFile F files q
  pub read : HasReadPart j.reading F cubes logs bytes j.begun written j.lines

-- formula, cubes of the tree, files, `bytes`, `written`, the join: the join has read these files to their ends, in this order, and these
-- bytes of the next file; the bytes `written` of the proof are already handed out
pub record HasReadFiles (F : Cnf) (cubes : List Cube) (files : List (List ℕ)) (bytes written : List ℕ) (j : Join) : Type 0 where
  pub stands : HasGatheredLogs F cubes files bytes written j
  pub read_as : FitsFirstByte j.reading bytes

-- ---- the end
-- the text is a proof of the formula by reverse unit propagation alone, and is accepted as one (`Accepts`)
abbrev pub Proves : Cnf → List ℕ → Type 0
Proves F text = RefutesByRup F text × Accepts F text

-- the report that some leaf is open: the notes, the lines of the open leaves, and `s UNKNOWN`
pub record ReportsOpen (F : Cnf) (cubes : List Cube) (files : List (List ℕ)) (notes : List ℕ) (r : Report) : Type 0 where
  pub leaves : List Leaf
  pub are : LeavesClosedByFiles F cubes files leaves
  pub status : r.status ≡ 0
  pub text : r.stdout.items ≡ (notes ++ missing_text (open_from 0 leaves)) ++ codes "s UNKNOWN\n"

-- the report that every leaf is closed: the bytes already handed out, and then those not handed out yet, are a proof of the formula
pub record ReportsProof (F : Cnf) (written notes : List ℕ) (j : Join) (r : Report) : Type 0 where
  pub status : r.status ≡ 20
  pub text : r.stdout.items ≡ notes ++ codes "s UNSATISFIABLE\n"
  pub proof : Proves F (written ++ j.lines.out.items)

-- the report of a join after its last file: a proof exactly if every leaf is closed by one of the files, and each file was read to its end
pub data Concludes (F : Cnf) (cubes : List Cube) (files : List (List ℕ)) (bytes written notes : List ℕ) (j : Join) (r : Report) : Type 0 where
  proves : bytes ≡ [] → AreClosed F cubes files → ReportsProof F written notes j r → Concludes F cubes files bytes written notes j r
  misses : ¬ ((bytes ≡ []) × AreClosed F cubes files) → ReportsOpen F cubes files notes r → Concludes F cubes files bytes written notes j r
