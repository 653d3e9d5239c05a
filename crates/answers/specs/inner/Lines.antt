-- The line that is begun, and what a call reads of a text's bytes.
use Rattle.std.specs.Prelude.{◌≡◌, ℕ, true, false, List, [], ◌++◌, codes, Option, Some, None}
use Rattle.dimacs.specs.logic.Literal.{Literal, negation}
use Rattle.dimacs.specs.logic.Propagation.{Assumed}
use Rattle.dimacs.specs.text.Rows.{Fails}
use Rattle.dimacs.specs.text.Words.{words}
use Rattle.answers.specs.declared.fault.AnswerFault.{AnswerFault}
use Rattle.answers.specs.declared.open_line.Begun.{Begun}
use Rattle.answers.specs.declared.open_line.Begun.TheVariants.{Passed, Blank, Values}
use Rattle.answers.specs.Pieces.{LinesRead, Marking, naming_of, read_on}
use Rattle.answers.specs.Parse.{no_memory, read_line, read_tokens}

-- literals' property: none is named with its negation
abbrev pub HasNoPair : Assumed → Type 0
HasNoPair α = (l : Literal) → α l ≡ true → α (negation l) ≡ false

-- a text that reads as the line that is begun, of this kind and with this last token, whatever bytes follow
abbrev pub begun_text : Begun → List ℕ → List ℕ
begun_text Passed token = codes "c"
begun_text Blank token = codes " "
begun_text Values token = codes "v" ++ token

-- a text that reads as the line that is begun; nothing if no byte of it was read
abbrev pub line_text : Option Begun → List ℕ → List ℕ
line_text None token = []
line_text (Some begun) token = begun_text begun token

-- values of this line are read, from `old` to `new`, and the last token is kept: both read the same, whatever follows on the line
abbrev pub TakesValues : ℕ → Marking → List ℕ → Marking → List ℕ → Type 0
TakesValues number old text new token =
    (rest : List ℕ) → read_tokens number (words (text ++ rest)) (naming_of old) ≡ read_tokens number (words (token ++ rest)) (naming_of new)

-- values of this line have this fault, whatever follows on the line
abbrev pub RefusesValues : ℕ → Marking → List ℕ → AnswerFault → Type 0
RefusesValues number old text fault =
    (rest : List ℕ) → Fails no_memory fault (read_tokens number (words (text ++ rest)) (naming_of old))

-- the front of a line is read, from `old` to `new`, and `begun` is kept of it: both read the same, whatever follows on the line
abbrev pub TakesPart : ℕ → Marking → List ℕ → Marking → List ℕ → Type 0
TakesPart number old text new begun =
    (rest : List ℕ) → read_line number (text ++ rest) (naming_of old) ≡ read_line number (begun ++ rest) (naming_of new)

-- the front of a line has this fault, whatever follows on the line
abbrev pub RefusesPart : ℕ → Marking → List ℕ → AnswerFault → Type 0
RefusesPart number old text fault =
    (rest : List ℕ) → Fails no_memory fault (read_line number (text ++ rest) (naming_of old))

-- bytes are read, from `old` to `new`: both read the same, whatever bytes follow
abbrev pub Leads : LinesRead → List ℕ → LinesRead → Type 0
Leads old bytes new = (more : List ℕ) → read_on old (bytes ++ more) ≡ read_on new more

-- bytes have this fault, or memory was refused, whatever bytes follow
abbrev pub Refuses : LinesRead → List ℕ → AnswerFault → Type 0
Refuses old bytes fault = (more : List ℕ) → Fails no_memory fault (read_on old (bytes ++ more))
