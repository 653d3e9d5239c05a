-- A formula's text that comes in pieces: the state of a `FormulaReader`.
use Rattle.std.specs.Prelude.{◌≡◌, ℕ, Bool, true, false, List, ◌++◌, Option, Some, None, Result}
use Rattle.dimacs.specs.declared.fault.DimacsFault.{DimacsFault}
use Rattle.dimacs.specs.logic.Cnf.{Cnf}
use Rattle.dimacs.specs.logic.Limits.{Limits, written}
use Rattle.dimacs.specs.text.BodyState.{BodyState}
use Rattle.dimacs.specs.text.Parser.{format, no_memory, parse_within}
use Rattle.dimacs.specs.text.Rows.{Fails, read_lines, read_text}
use Rattle.dimacs.specs.text.Words.{lines}

-- the parser's state after the first lines of a text: the limits, the number of lines, and the body once the header was read
pub record LinesRead : Type 0 where
  pub limits : Limits
  pub count : ℕ
  pub body : Option BodyState

-- the formula of a text of which n lines have been read and these lines are left, or its first fault; None is before the header
abbrev pub read_behind : Limits → ℕ → Option BodyState → List (List ℕ) → Result Cnf DimacsFault
read_behind L n None later = read_text format L n later
read_behind L n (Some s) later = read_lines format n later s

-- the formula of a text, if the parser's state is read and these lines are left, or the text's first fault
abbrev pub read_on : LinesRead → List (List ℕ) → Result Cnf DimacsFault
read_on read later = read_behind read.limits read.count read.body later

-- the state of the reader. Within: the parser's state after the complete lines, and the bytes of the incomplete line. Failed: the first
-- fault, or a refusal of memory
pub data Progress : Type 0 where
  Within : LinesRead → List ℕ → Progress
  Failed : DimacsFault → Progress

-- the state of the reader from its fields: the fault, the parser's state, and the bytes of the incomplete line
abbrev pub progress_of : Option DimacsFault → LinesRead → List ℕ → Progress
progress_of None read begun = Within read begun
progress_of (Some fault) read begun = Failed fault

-- In this state the reader has read exactly these bytes of a text, within the limits L: whatever bytes more follow, what the state gives
-- for them is what the parser gives for the whole text. A fault is the whole text's, or memory was refused.
abbrev pub HasReadWithin : Limits → Progress → List ℕ → Type 0
HasReadWithin L (Within read begun) bytes = (read.limits ≡ L) × ((more : List ℕ) → parse_within L (bytes ++ more) ≡ read_on read (lines (begun ++ more)))
HasReadWithin L (Failed fault) bytes = (more : List ℕ) → Fails no_memory fault (parse_within L (bytes ++ more))

-- in this state the reader has read exactly these bytes of a text, within the written limits
abbrev pub HasRead : Progress → List ℕ → Type 0
HasRead progress bytes = HasReadWithin written progress bytes

-- whether there was a fault, or memory was refused
abbrev pub has_failed : Progress → Bool
has_failed (Within read begun) = false
has_failed (Failed fault) = true
