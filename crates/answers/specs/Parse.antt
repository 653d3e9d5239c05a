-- The literals that an answer names, or its first fault.
use Rattle.std.specs.Prelude.{ℕ, ◌+◌, ◌==◌, nat_lt, Bool, true, false, List, [], ◌∷◌, ℤ, nat_abs, Option, Some, None, Result, Ok, Err, if◌then◌else◌}
use Rattle.dimacs.specs.logic.Literal.{Literal, negation, literal_of_number}
use Rattle.dimacs.specs.logic.Propagation.{Assumed, with_literal}
use Rattle.dimacs.specs.text.Numbers.{number}
use Rattle.dimacs.specs.text.Rows.{◌>>=◌}
use Rattle.dimacs.specs.text.Words.{lines}
use Rattle.answers.specs.declared.fault.Kind.{Kind}
use Rattle.answers.specs.declared.fault.Kind.TheVariants.{ForeignLine, BadToken, BehindEnd, ComplementaryPair, NotEnded, NoMemory}
use Rattle.answers.specs.declared.fault.AnswerFault.{AnswerFault}
use Rattle.answers.specs.Grammar.{AnswerLine, Passed, Values, Foreign, line_of}

-- the fault of a call to which memory was refused
abbrev pub no_memory : AnswerFault
no_memory = record { kind = NoMemory; line = 0 }

-- a fault of this kind on this line
abbrev pub fault : {A : Type 0} → Kind → ℕ → Result A AnswerFault
fault kind line = Err (record { kind = kind; line = line })

-- what was read of the values: the literals that were named, and whether the 0 was read
pub record Naming : Type 0 where
  pub named : Assumed
  pub ended : Bool

-- no literal was named, and no 0 was read
abbrev pub nothing_named : Naming
nothing_named = record { named = λ l. false; ended = false }

-- a literal of this line is read: its negation must not have been named
abbrev pub read_literal : ℕ → Literal → Naming → Result Naming AnswerFault
read_literal line l m = if m.named (negation l) then fault ComplementaryPair line else Ok (record m { named = with_literal m.named l })

-- a number of this line is read: 0 ends the values, and another is a literal, whose variable is within the limit
abbrev pub read_number : ℕ → ℤ → Naming → Result Naming AnswerFault
read_number line z m =
    if nat_abs z == 0 then Ok (record m { ended = true })
    else (if nat_lt 99999999 (nat_abs z) then fault BadToken line
    else read_literal line (literal_of_number z) m)

-- a token of this line is read, which is this number or none
abbrev pub read_found : ℕ → Option ℤ → Naming → Result Naming AnswerFault
read_found line None m = fault BadToken line
read_found line (Some z) m = read_number line z m

-- a token of this line is read; there must be none after the 0
unfoldable pub read_token : ℕ → List ℕ → Naming → Result Naming AnswerFault
read_token line word m = if m.ended then fault BehindEnd line else read_found line (number word) m

-- the tokens of this line are read, one after the other
unfoldable pub read_tokens : ℕ → List (List ℕ) → Naming → Result Naming AnswerFault
read_tokens line [] m = Ok m
read_tokens line (word ∷ more) m = read_token line word m >>= read_tokens line more

-- a line of this number is read, by its kind
abbrev pub read_as : ℕ → AnswerLine → Naming → Result Naming AnswerFault
read_as line Passed m = Ok m
read_as line (Values tokens) m = read_tokens line tokens m
read_as line Foreign m = fault ForeignLine line

-- the line of this number is read, by its bytes
unfoldable pub read_line : ℕ → List ℕ → Naming → Result Naming AnswerFault
read_line number line m = read_as number (line_of line) m

-- the text ends on this line: the 0 must have been read
abbrev pub end_of : ℕ → Naming → Result Assumed AnswerFault
end_of line m = if m.ended then Ok m.named else fault NotEnded line

-- the lines after the first n lines are read, up to the end of the text
unfoldable pub read_lines : ℕ → List (List ℕ) → Naming → Result Assumed AnswerFault
read_lines n [] m = end_of n m
read_lines n (line ∷ more) m = read_line (n + 1) line m >>= read_lines (n + 1) more

-- the literals that a text names, or its first fault
abbrev pub answer_of : List ℕ → Result Assumed AnswerFault
answer_of text = read_lines 0 (lines text) nothing_named
