-- What `weave` tells, and what it writes.
use Rattle.std.specs.Prelude.{◌≡◌, ◌⊎◌, ℕ, Bool, true, false, List, [], ◌∷◌, ◌++◌, flat_map, codes, decimal, if◌then◌else◌}
use Rattle.std.specs.Bool.{OnTrue}
use Rattle.std.specs.Char.{is_ascii_alphanumeric}
use Rattle.commands.specs.FormulaTree.{OfFormula, RefusesInput}
use Rattle.dimacs.specs.logic.Cnf.{Cnf}
use Rattle.dimacs.specs.logic.Limits.{Limits}
use Rattle.icnf.specs.Leaves.{Cube}
use Rattle.leaves.specs.BlockLift.{are_closed, told_text}
use Rattle.leaves.specs.Leaf.{Prints}
use Rattle.lidrup.specs.CubeLog.{ClosesCube}
use Rattle.lrat_text.specs.Log.{Closes}
use Rattle.reports.specs.declared.report.Report.{Report}

-- ---- notes
-- A note. Of a log by its name: at this line its first import that fails; this line is none of a log; the lemma of this line does not follow.
-- And: the logs close nothing, have too many lemmas, or have changed while they were read.
pub data Note : Type 0 where
  ImportFails : List ℕ → ℕ → Note
  Refused : List ℕ → ℕ → Note
  DoesNotFollow : List ℕ → ℕ → Note
  ClosesNothing : Note
  TooMany : Note
  Changed : Note

-- a byte of a log's name as it is printed: a question mark in the place of one that is no letter or digit
abbrev pub shown_byte : ℕ → List ℕ
shown_byte b = if is_ascii_alphanumeric b then b ∷ [] else 63 ∷ []

-- the line of a log: its name, the line's number, and what is said of it
abbrev pub line_text : List ℕ → ℕ → List ℕ → List ℕ
line_text name line said = codes "c log " ++ flat_map shown_byte name ++ codes " line " ++ decimal line ++ said

-- the line of a note
abbrev pub note_text : Note → List ℕ
note_text (ImportFails name line) = line_text name line (codes " import fails\n")
note_text (Refused name line) = line_text name line (codes " refused\n")
note_text (DoesNotFollow name line) = line_text name line (codes " does not follow\n")
note_text ClosesNothing = codes "c closes nothing\n"
note_text TooMany = codes "c too many lemmas\n"
note_text Changed = codes "c logs have changed\n"

-- the text is the lines of some notes, which are not proved
abbrev pub AreNotes : List ℕ → Type 0
AreNotes text = (notes : List Note) × (text ≡ flat_map note_text notes)

-- ---- what comes of the logs of a cell
-- formula, log, cubes, the bools reported: if a leaf's bool is true, the log has a lemma that closes the leaf
abbrev pub AreClosed : Cnf → List ℕ → List Cube → List Bool → Type 0
AreClosed F log [] [] = Unit {0}
AreClosed F log [] (b ∷ told) = ⊥
AreClosed F log (q ∷ cubes) [] = ⊥
AreClosed F log (q ∷ cubes) (b ∷ told) = OnTrue b (ClosesCube F q log) × AreClosed F log cubes told

-- What is told of a log, behind some text: if the formula is split, of each leaf whether the log closes it, with status 20 if it closes all;
-- else the log closes the whole formula, which is told unsatisfiable. The positions are: formula, log, cubes, whether it is split, the text,
-- the report.
abbrev pub TellsWoven : Cnf → List ℕ → List Cube → Bool → List ℕ → Report → Type 0
TellsWoven F log cubes true text r = (told : List Bool) × AreClosed F log cubes told × Prints (if are_closed told then 20 else 0) (text ++ told_text 0 told) r
TellsWoven F log cubes false text r = Closes F [] log × Prints 20 (text ++ codes "s UNSATISFIABLE\n") r

-- What comes of the logs of a cell: behind some notes it is told what a log closes, which is kept; or nothing is kept, and some notes are told,
-- with status 1. The positions are: that a log is kept, that nothing is kept, formula, cubes, whether it is split, the report.
pub data Weaves (keeps : List ℕ → Type 0) (left : Type 0) (F : Cnf) (cubes : List Cube) (split : Bool) (r : Report) : Type 0 where
  weaves : (log notes : List ℕ) → AreNotes notes → TellsWoven F log cubes split notes r → keeps log → Weaves keeps left F cubes split r
  fails : (notes : List ℕ) → AreNotes notes → Prints 1 notes r → left → Weaves keeps left F cubes split r

-- P holds of the formula that the input spells within the limits; or the report tells the first fault of the input
abbrev pub OfInput : Limits → List ℕ → (Cnf → Type 0) → Report → Type 0
OfInput L input P r = RefusesInput L input r ⊎ OfFormula L input P
