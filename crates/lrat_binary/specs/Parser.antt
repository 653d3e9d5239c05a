-- The steps that bytes spell, and the first fault after them, as a computation from left to right. A reader must believe only which fault
-- comes first: by the law `reading_is_spelling`, steps are read without a fault if and only if the bytes spell them by Grammar.
use Rattle.std.specs.Prelude.{ℕ, ◌+◌, ◌-◌, ◌*◌, ◌/◌, ◌%◌, ◌^◌, ◌&&◌, ◌==◌, nat_lt, nat_le, List, [], ◌∷◌, ◌++◌, Option, Some, None, if◌then◌else◌}
use Rattle.std.specs.Str.{byte}
use Rattle.dimacs.specs.logic.Literal.{Literal, Pos, Neg}
use Rattle.dimacs.specs.logic.Rat.{Group}
use Rattle.lrat_text.specs.GroupLists.{with_hint}
use Rattle.lrat_text.specs.declared.fault.TextFault.{TextFault}
use Rattle.lrat_text.specs.declared.fault.TextFault.TheVariants.{BadToken, LineNotEnded, NumberTooLarge}
use Rattle.lrat_text.specs.declared.step.Step.{Step}
use Rattle.lrat_text.specs.declared.step.Step.TheVariants.{Add, Delete}
use Rattle.lrat_binary.specs.declared.token.Token.{Token}
use Rattle.lrat_binary.specs.declared.token.Token.TheVariants.{End, Plus, Minus, Other}

-- what a number of a step means: 0 ends a list, 1 means nothing, 2n is Plus n and 2n + 1 is Minus n
abbrev pub token_of : ℕ → Token
token_of code = if code == 0 then End else (if code == 1 then Other else (if code % 2 == 0 then Plus (code / 2) else Minus (code / 2)))

-- What has been read of a step, and the list to which its next number belongs. In each case the first ℕ is the limit of the variables.
-- AtId: the addition's number comes next. AtLiterals: its number, and its literals so far. AtHints: its number, literals, hints and groups
-- so far. AtDeleted: the deletion's numbers so far.
pub data StepPrefix : Type 0 where
  AtId : ℕ → StepPrefix
  AtLiterals : ℕ → ℕ → List Literal → StepPrefix
  AtHints : ℕ → ℕ → List Literal → List ℕ → List Group → StepPrefix
  AtDeleted : ℕ → List ℕ → StepPrefix

-- The state of a reader: between two steps, with the limit of the variables; or within a step, with the value of the bytes of its next
-- number so far, and the weight of the next byte, a power of 128.
pub data ReaderState : Type 0 where
  BetweenStepsWithin : ℕ → ReaderState
  InStep : StepPrefix → ℕ → ℕ → ReaderState

-- the state of a reader between two steps of a proof with variables up to 2,000,000
abbrev pub BetweenSteps : ReaderState
BetweenSteps = BetweenStepsWithin 2000000

-- What a byte leads to: a new state; a complete step, with the limit of the variables before it; or a fault.
pub data Outcome : Type 0 where
  Goes : ReaderState → Outcome
  Ends : ℕ → Step → Outcome
  Fails : TextFault → Outcome

-- the outcome of a complete number that leads to this prefix of a step: no byte of the next number is read yet
abbrev pub go_to : StepPrefix → Outcome
go_to part = Goes (InStep part 0 1)

-- the outcome of the literal l of the variable v: it is appended to the addition's literals; a variable above most is the fault
-- NumberTooLarge
abbrev pub literal_taken : ℕ → ℕ → List Literal → ℕ → Literal → Outcome
literal_taken most id lits v l = if nat_le v most then go_to (AtLiterals most id (lits ++ l ∷ [])) else Fails NumberTooLarge

-- the outcome of the hint n: it is appended to the last group, or to the addition's own hints if there is no group
abbrev pub hint_taken : ℕ → ℕ → List Literal → List ℕ → List Group → ℕ → Outcome
hint_taken most id lits hints [] n = go_to (AtHints most id lits (hints ++ n ∷ []) [])
hint_taken most id lits hints (g ∷ groups) n = go_to (AtHints most id lits hints (with_hint n (g ∷ groups)))

-- the outcome of a complete number, which means this token, after this prefix of a step
abbrev pub number_taken : StepPrefix → Token → Outcome
number_taken (AtId most) (Plus n) = go_to (AtLiterals most n [])
number_taken (AtId most) End = Fails BadToken
number_taken (AtId most) (Minus n) = Fails BadToken
number_taken (AtId most) Other = Fails BadToken
number_taken (AtLiterals most id lits) End = go_to (AtHints most id lits [] [])
number_taken (AtLiterals most id lits) (Plus v) = literal_taken most id lits v (Pos v)
number_taken (AtLiterals most id lits) (Minus v) = literal_taken most id lits v (Neg v)
number_taken (AtLiterals most id lits) Other = Fails BadToken
number_taken (AtHints most id lits hints groups) End = Ends most (Add id lits hints groups)
number_taken (AtHints most id lits hints groups) (Plus n) = hint_taken most id lits hints groups n
number_taken (AtHints most id lits hints groups) (Minus n) = go_to (AtHints most id lits hints (groups ++ (n, []) ∷ []))
number_taken (AtHints most id lits hints groups) Other = Fails BadToken
number_taken (AtDeleted most ids) End = Ends most (Delete ids)
number_taken (AtDeleted most ids) (Plus n) = go_to (AtDeleted most (ids ++ n ∷ []))
number_taken (AtDeleted most ids) (Minus n) = Fails BadToken
number_taken (AtDeleted most ids) Other = Fails BadToken

-- The outcome of the byte b of a number, after this prefix of a step. The number's bytes before b have the given value, and b has the given
-- weight. A byte below 128 ends the number, and must not be 0 after another byte. A number has at most seven bytes.
abbrev pub byte_taken : StepPrefix → ℕ → ℕ → ℕ → Outcome
byte_taken part value weight b =
    if nat_lt b 128 then (if b == 0 && nat_lt 1 weight then Fails BadToken else number_taken part (token_of (value + weight * b)))
    else (if nat_lt weight (2 ^ 42) && nat_lt b 256 then Goes (InStep part (value + weight * (b - 128)) (128 * weight)) else Fails NumberTooLarge)

-- the outcome of the letter that begins a step: a for an addition, d for a deletion
abbrev pub letter_taken : ℕ → ℕ → Outcome
letter_taken most b = if b == byte "a" then go_to (AtId most) else (if b == byte "d" then go_to (AtDeleted most []) else Fails BadToken)

-- the outcome of a byte in each state of a reader: between two steps it is a step's letter, within a step a byte of a number
abbrev pub after_byte : ReaderState → ℕ → Outcome
after_byte (BetweenStepsWithin most) b = letter_taken most b
after_byte (InStep part value weight) b = byte_taken part value weight b

-- the result of reading: steps, and the fault after them, if any
abbrev pub ReadResult : Type 0
ReadResult = List Step × Option TextFault

-- the result of reading that gives these steps first, and then what the result later gives
abbrev pub with_steps : List Step → ReadResult → ReadResult
with_steps steps later = (steps ++ later.0, later.1)

-- the result of reading from an outcome on; later gives the result of reading the bytes that follow, from each state
abbrev pub from_outcome : Outcome → (ReaderState → ReadResult) → ReadResult
from_outcome (Goes begun) later = later begun
from_outcome (Ends most step) later = with_steps (step ∷ []) (later (BetweenStepsWithin most))
from_outcome (Fails fault) later = ([], Some fault)

-- the result at the end of the bytes: the fault LineNotEnded within a step, otherwise no fault
abbrev pub at_end : ReaderState → ReadResult
at_end (BetweenStepsWithin most) = ([], None)
at_end (InStep part value weight) = ([], Some LineNotEnded)

-- the result of reading these bytes, to their end, in this state
unfoldable pub read : ReaderState → List ℕ → ReadResult
read begun [] = at_end begun
read begun (b ∷ bytes) = from_outcome (after_byte begun b) (λ next. read next bytes)

-- the result of reading a proof with variables up to most
abbrev pub steps_within : ℕ → List ℕ → ReadResult
steps_within most bytes = read (BetweenStepsWithin most) bytes

-- the result of reading a proof with variables up to 2,000,000
abbrev pub steps_in : List ℕ → ReadResult
steps_in bytes = read BetweenSteps bytes
