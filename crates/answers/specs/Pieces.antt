-- An answer that comes in pieces, and a table of the literals that it names.
use Rattle.std.specs.Prelude.{◌≡◌, ℕ, Bool, false, List, ◌++◌, Option, Some, None, Result, Ok, Err, slice_index_or}
use Rattle.dimacs.specs.logic.Literal.{index_of}
use Rattle.dimacs.specs.logic.Propagation.{Assumed}
use Rattle.dimacs.specs.text.Rows.{Fails}
use Rattle.dimacs.specs.text.Words.{lines}
use Rattle.answers.specs.declared.fault.AnswerFault.{AnswerFault}
use Rattle.answers.specs.Parse.{Naming, answer_of, no_memory, read_lines}

-- the literals whose mark in a table is set; past its end none is
abbrev pub named_by : List Bool → Assumed
named_by marks = λ l. slice_index_or marks (index_of l) false

-- the value of a table of literals, with whether the 0 was read
pub record Marking : Type 0 where
  pub marks : List Bool
  pub ended : Bool

-- the literals that the table names, with whether the 0 was read
abbrev pub naming_of : Marking → Naming
naming_of m = record { named = named_by m.marks; ended = m.ended }

-- what was read of a text: the number of lines that have ended, what they named, and the bytes of the line that is begun, as far as they
-- still matter
pub record LinesRead : Type 0 where
  pub count : ℕ
  pub naming : Marking
  pub begun : List ℕ

-- the literals that a text names, or its first fault, if this was read of it and these bytes follow
abbrev pub read_on : LinesRead → List ℕ → Result Assumed AnswerFault
read_on read more = read_lines read.count (lines (read.begun ++ more)) (naming_of read.naming)

-- the state of a reader: what was read so far, or the fault that was found
pub data Progress : Type 0 where
  Within : LinesRead → Progress
  Failed : AnswerFault → Progress

-- the state of a reader by its fault, if there is one, and by what was read
abbrev pub progress_of : Option AnswerFault → LinesRead → Progress
progress_of None read = Within read
progress_of (Some fault) read = Failed fault

-- a reader in this state has read these bytes: whatever bytes follow, its state says what the whole text is. A fault is the text's, or
-- memory was refused
abbrev pub HasRead : Progress → List ℕ → Type 0
HasRead (Within read) bytes = (more : List ℕ) → answer_of (bytes ++ more) ≡ read_on read more
HasRead (Failed fault) bytes = (more : List ℕ) → Fails no_memory fault (answer_of (bytes ++ more))

-- the result of a call is right: the table of the expected literals, or the expected fault, or memory was refused
abbrev pub GivesNamed : Result (List Bool) AnswerFault → Result Assumed AnswerFault → Type 0
GivesNamed (Ok marks) expected = expected ≡ Ok (named_by marks)
GivesNamed (Err fault) expected = Fails no_memory fault expected
