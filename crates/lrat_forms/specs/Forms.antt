-- The two forms of a proof, which the first byte tells apart, and the text of a proof in either form.
use Rattle.std.specs.Prelude.{ℕ, ◌==◌, ◌||◌, Bool, false, List, [], ◌∷◌, ◌++◌, codes, Option, Some, None, if◌then◌else◌}
use Rattle.std.specs.Str.{byte}
use Rattle.lrat_text.specs.Runs.{text_of}
use Rattle.lrat_text.specs.declared.fault.TextFault.{TextFault}
use Rattle.lrat_text.specs.declared.fault.TextFault.TheVariants.{BadToken, LineNotEnded, MissingZero, NumberTooLarge, NoMemory}
use Rattle.lrat_binary.specs.Parser.{BetweenStepsWithin, ReaderState, ReadResult, read}

-- the letters with which a step in binary form begins
abbrev pub is_letter : ℕ → Bool
is_letter b = b == byte "a" || b == byte "d"

-- whether a proof is in binary form; the empty proof is a text
abbrev pub is_binary : List ℕ → Bool
is_binary [] = false
is_binary (b ∷ bytes) = is_letter b

-- A text whose first fault is this one: an empty line, a line without LF, a line without a 0, a line that begins with 2^48. It is empty for
-- NoMemory, which is no fault of a text.
abbrev pub fault_line : TextFault → List ℕ
fault_line BadToken = codes "\n"
fault_line LineNotEnded = codes "0"
fault_line MissingZero = codes "1\n"
fault_line NumberTooLarge = codes "281474976710656\n"
fault_line NoMemory = []

-- a text that has this fault, or nothing if there is no fault
abbrev pub fault_text : Option TextFault → List ℕ
fault_text None = []
fault_text (Some fault) = fault_line fault

-- the text of a result of reading: a line for each step, then a text that has the fault; top is the number of the last addition before
-- these steps
abbrev pub reading_text : ℕ → ReadResult → List ℕ
reading_text top reading = text_of top reading.0 ++ fault_text reading.1

-- the text of a proof: a proof in binary form becomes the lines of its steps, as this reader reads them, step n on line n; a text stays as
-- it is
unfoldable pub text_in : ReaderState → List ℕ → List ℕ
text_in begun bytes = if is_binary bytes then reading_text 1 (read begun bytes) else bytes

-- the text of a proof with variables up to most
abbrev pub text_form_within : ℕ → List ℕ → List ℕ
text_form_within most bytes = text_in (BetweenStepsWithin most) bytes

-- the same with variables up to 2,000,000
abbrev pub text_form : List ℕ → List ℕ
text_form bytes = text_form_within 2000000 bytes
