-- The formula of a DIMACS text, or its first fault, as a computation from left to right. Lines are numbered from 1.
use Rattle.std.specs.Prelude.{ℕ, ◌+◌, ◌==◌, nat_lt, nat_le, List, [], ◌∷◌, ◌++◌, length, ℤ, nat_abs, Option, Some, None, Result, Ok, Err, codes, bytes_eq, if◌then◌else◌}
use Rattle.dimacs.specs.declared.fault.Kind.{Kind}
use Rattle.dimacs.specs.declared.fault.Kind.TheVariants.{NoHeader, BadHeader, BadToken, VariableAboveHeader, ClauseNotEnded, TooFewClauses, TooManyClauses, AboveLimit, NoMemory}
use Rattle.dimacs.specs.declared.fault.DimacsFault.{DimacsFault}
use Rattle.dimacs.specs.text.BodyState.{BodyState}
use Rattle.dimacs.specs.logic.Cnf.{Cnf}
use Rattle.dimacs.specs.logic.Limits.{Limits, written}
use Rattle.dimacs.specs.logic.Literal.{literal_of_number}
use Rattle.dimacs.specs.text.Numbers.{number, natural}
use Rattle.dimacs.specs.text.Rows.{Format, Answers, read_text, ◌>>=◌}
use Rattle.dimacs.specs.text.Words.{lines}

-- the fault of a refusal of memory
abbrev pub no_memory : DimacsFault
no_memory = record { kind = NoMemory; line = 0 }

-- the result that is the fault of this kind in this line
abbrev pub fault : {A : Type 0} → Kind → ℕ → Result A DimacsFault
fault kind line = Err (record { kind = kind; line = line })

-- the state after a token that is the number z, in the line of this number, or the token's fault: a literal is appended to the open clause,
-- and 0 ends the clause
abbrev pub read_number : ℕ → ℤ → BodyState → Result BodyState DimacsFault
read_number line z b =
    if nat_le b.count (length b.done) then fault TooManyClauses line
    else (if nat_abs z == 0 then Ok (record b { done = b.done ++ b.open_clause ∷ []; open_clause = [] })
    else (if nat_lt b.vars (nat_abs z) then fault VariableAboveHeader line
    else (if nat_le b.limit b.total then fault AboveLimit line
    else Ok (record b { open_clause = b.open_clause ++ literal_of_number z ∷ []; total = b.total + 1 }))))

-- the state after a token, or its fault; the argument is the token's number, None if it is no number
abbrev pub read_found : ℕ → Option ℤ → BodyState → Result BodyState DimacsFault
read_found line None b = fault BadToken line
read_found line (Some z) b = read_number line z b

-- the state after the token word, in the line of this number, or the token's fault
unfoldable pub read_token : ℕ → List ℕ → BodyState → Result BodyState DimacsFault
read_token line word b = read_found line (number word) b

-- the formula at the end of a text of n lines, or the fault that the text ends too early
unfoldable pub finish : ℕ → BodyState → Result Cnf DimacsFault
finish n b = elim b.open_clause [
  | [] ↦ if nat_lt (length b.done) b.count then fault TooFewClauses n else Ok (record { vars = b.vars; clauses = b.done })
  | x ∷ xs ↦ fault ClauseNotEnded n
]

-- the header's two numbers, if no token follows them; or the fault
abbrev pub header_end : ℕ → ℕ → ℕ → List (List ℕ) → Result (ℕ × ℕ) DimacsFault
header_end line vars count [] = Ok (vars, count)
header_end line vars count (word ∷ more) = fault BadHeader line

-- the header's two numbers, or the fault; the arguments are the number of variables, the value of the fourth token (None if it is no
-- number) and the tokens after it
abbrev pub header_count : Limits → ℕ → ℕ → Option ℕ → List (List ℕ) → Result (ℕ × ℕ) DimacsFault
header_count L line vars None more = fault BadHeader line
header_count L line vars (Some count) more = if nat_lt L.clauses count then fault AboveLimit line else header_end line vars count more

-- the header's two numbers, or the fault; the arguments are the number of variables and the tokens from the fourth one on
abbrev pub header_four : Limits → ℕ → ℕ → List (List ℕ) → Result (ℕ × ℕ) DimacsFault
header_four L line vars [] = fault BadHeader line
header_four L line vars (word ∷ more) = header_count L line vars (natural word) more

-- the header's two numbers, or the fault; the arguments are the value of the third token (None if it is no number) and the tokens after it
abbrev pub header_vars : Limits → ℕ → Option ℕ → List (List ℕ) → Result (ℕ × ℕ) DimacsFault
header_vars L line None more = fault BadHeader line
header_vars L line (Some vars) more = if nat_lt L.vars vars then fault AboveLimit line else header_four L line vars more

-- the header's two numbers, or the fault; the argument is the tokens from the third one on
abbrev pub header_three : Limits → ℕ → List (List ℕ) → Result (ℕ × ℕ) DimacsFault
header_three L line [] = fault BadHeader line
header_three L line (word ∷ more) = header_vars L line (natural word) more

-- the header's two numbers, or the fault; the argument is the tokens from the second one on, which must be cnf
abbrev pub header_two : Limits → ℕ → List (List ℕ) → Result (ℕ × ℕ) DimacsFault
header_two L line [] = fault BadHeader line
header_two L line (word ∷ more) = if bytes_eq word (codes "cnf") then header_three L line more else fault BadHeader line

-- the header's two numbers, of variables and of clauses, or the fault; the argument is all its tokens, of which the first must be p
unfoldable pub read_header : Limits → ℕ → List (List ℕ) → Result (ℕ × ℕ) DimacsFault
read_header L line [] = fault BadHeader line
read_header L line (word ∷ more) = if bytes_eq word (codes "p") then header_two L line more else fault NoHeader line

-- the state of the body before its first token, for these limits and the header's two numbers
abbrev pub start : Limits → ℕ × ℕ → BodyState
start L h = record { vars = h.0; count = h.1; limit = L.literals; done = []; open_clause = []; total = 0 }

-- the format DIMACS: the first line with a token is the header, and after it every token is a number
abbrev pub format : Format BodyState Cnf DimacsFault
format = record {
  no_header = λ n. record { kind = NoHeader; line = n };
  header = λ L line words. read_header L line words >>= λ h. Ok (start L h);
  token = read_token;
  finish = finish;
}

-- the formula of a text within the limits L, or its first fault
abbrev pub parse_within : Limits → List ℕ → Result Cnf DimacsFault
parse_within L text = read_text format L 0 (lines text)

-- the formula of a text within the written limits, or its first fault
abbrev pub parse : List ℕ → Result Cnf DimacsFault
parse text = parse_within written text

-- a call has the expected result, or answers that memory was refused
abbrev pub GivesFormula : Result Cnf DimacsFault → Result Cnf DimacsFault → Type 0
GivesFormula result expected = Answers no_memory result expected
