-- The formula and the tree of an iCNF text, or its first fault, as a computation from left to right. Lines are numbered from 1. Each
-- function from a state to a state takes the number of the line.
use Rattle.std.specs.Prelude.{ℕ, ◌+◌, ◌==◌, not, nat_lt, nat_le, List, [], ◌∷◌, ◌++◌, length, ℤ, nat_abs, Option, Some, None, Result, Ok, Err, codes, bytes_eq, if◌then◌else◌}
use Rattle.dimacs.specs.logic.Cnf.{Cnf, greatest_in}
use Rattle.dimacs.specs.logic.Limits.{Limits, written}
use Rattle.dimacs.specs.logic.Literal.{Literal, Clause, literal_of_number, var_of}
use Rattle.dimacs.specs.text.Numbers.{number}
use Rattle.dimacs.specs.text.Rows.{Format, Answers, read_text, ◌>>=◌}
use Rattle.dimacs.specs.text.Words.{lines}
use Rattle.icnf.specs.declared.fault.IcnfFault.{IcnfFault}
use Rattle.icnf.specs.declared.fault.Kind.{Kind}
use Rattle.icnf.specs.declared.fault.Kind.TheVariants.{NoHeader, BadHeader, BadToken, VariableAboveClauses, ClauseNotEnded, AboveLimit, NoMemory, ClauseBehindCube, RepeatedVariable, NotATree, CubeTooLong}
use Rattle.icnf.specs.declared.walk.Stage.{Stage}
use Rattle.icnf.specs.declared.walk.Stage.TheVariants.{Clauses, Outside, Inside, Complete}
use Rattle.icnf.specs.declared.place.Place.{Place}
use Rattle.icnf.specs.Leaves.{Cube}
use Rattle.icnf.specs.ReadState.{ReadState}
use Rattle.icnf.specs.Walk.{names, fits, advanced, ended_cube}

-- the fault of a refusal of memory
abbrev pub no_memory : IcnfFault
no_memory = record { kind = NoMemory; line = 0 }

-- the result that is the fault of this kind in this line
abbrev pub fault : {A : Type 0} → Kind → ℕ → Result A IcnfFault
fault kind line = Err (record { kind = kind; line = line })

-- a token: the word a, or a number
pub data Token : Type 0 where
  Mark : Token
  Number : ℤ → Token

-- the token of a number; None if the word is no number
abbrev pub number_token : Option ℤ → Option Token
number_token None = None
number_token (Some z) = Some (Number z)

-- the token that a word is; None if it is neither a nor a number
abbrev pub token : List ℕ → Option Token
token word = if bytes_eq word (codes "a") then Some Mark else number_token (number word)

-- the state after the beginning of a cube, or the fault AboveLimit
abbrev pub begin : ℕ → ReadState → Result ReadState IcnfFault
begin line s = if nat_le 65536 (length s.walk.cubes) then fault AboveLimit line else Ok (record s { walk = record s.walk { stage = Inside } })

-- the state after the beginning of a cube, if the open clause has no literal, or the fault
abbrev pub begin_behind : ℕ → Clause → ReadState → Result ReadState IcnfFault
begin_behind line [] s = begin line s
begin_behind line (l ∷ clause) s = fault BadToken line

-- the state after the word a, by the position in the text, or the word's fault
abbrev pub read_mark : ℕ → Stage → ReadState → Result ReadState IcnfFault
read_mark line Clauses s = begin_behind line s.clauses.open_clause s
read_mark line Outside s = begin line s
read_mark line Inside s = fault BadToken line
read_mark line Complete s = fault NotATree line

-- the state after the number z in a clause, or its fault: a literal is appended to the open clause, and 0 ends the clause
abbrev pub in_clause : ℕ → ℤ → ReadState → Result ReadState IcnfFault
in_clause line z s =
    if nat_le s.limits.clauses (length s.clauses.done) then fault AboveLimit line
    else (if nat_abs z == 0 then Ok (record s { clauses = record s.clauses { done = s.clauses.done ++ s.clauses.open_clause ∷ []; open_clause = [] } })
    else (if nat_lt s.limits.vars (nat_abs z) then fault AboveLimit line
    else (if nat_le s.limits.literals s.clauses.total then fault AboveLimit line
    else Ok (record s { clauses = record s.clauses { open_clause = s.clauses.open_clause ++ literal_of_number z ∷ []; total = s.clauses.total + 1 } }))))

-- the state after the 0 that ends a cube, or the fault that forced decisions must still follow
abbrev pub end_cube : ℕ → List Place → ReadState → Result ReadState IcnfFault
end_cube line [] s = Ok (record s { walk = ended_cube s.walk })
end_cube line (p ∷ forced) s = fault NotATree line

-- the state after the literal l of a cube, or its fault
abbrev pub literal_in_cube : ℕ → Literal → ReadState → Result ReadState IcnfFault
literal_in_cube line l s =
    if names s.walk.path (var_of l) then fault RepeatedVariable line
    else (if not (fits l s.walk.forced) then fault NotATree line
    else (if nat_le 64 (length s.walk.path) then fault CubeTooLong line
    else Ok (record s { walk = advanced l s.walk })))

-- the state after the number z in a cube, or its fault: a literal, or the 0 that ends the cube
abbrev pub in_cube : ℕ → ℤ → ReadState → Result ReadState IcnfFault
in_cube line z s =
    if nat_abs z == 0 then end_cube line s.walk.forced s
    else (if nat_lt (greatest_in s.clauses.done) (nat_abs z) then fault VariableAboveClauses line
    else literal_in_cube line (literal_of_number z) s)

-- the state after the number z, by the position in the text, or its fault
abbrev pub read_number : ℕ → ℤ → Stage → ReadState → Result ReadState IcnfFault
read_number line z Clauses s = in_clause line z s
read_number line z Outside s = fault ClauseBehindCube line
read_number line z Inside s = in_cube line z s
read_number line z Complete s = fault ClauseBehindCube line

-- the state after a token, or its fault; the argument is the token, None if the word is neither a nor a number
abbrev pub read_found : ℕ → Option Token → ReadState → Result ReadState IcnfFault
read_found line None s = fault BadToken line
read_found line (Some Mark) s = read_mark line s.walk.stage s
read_found line (Some (Number z)) s = read_number line z s.walk.stage s

-- the state after the token word, or its fault
unfoldable pub read_token : ℕ → List ℕ → ReadState → Result ReadState IcnfFault
read_token line word s = read_found line (token word) s

-- the fault of a text of n lines that ends before its first cube, by the literals of the open clause
abbrev pub end_behind : ℕ → Clause → Result (Cnf × List Cube) IcnfFault
end_behind n [] = fault NotATree n
end_behind n (l ∷ clause) = fault ClauseNotEnded n

-- the formula and the cubes at the end of a text of n lines, by the position in the text, or the fault that it ends too early
abbrev pub finish_at : ℕ → Stage → ReadState → Result (Cnf × List Cube) IcnfFault
finish_at n Clauses s = end_behind n s.clauses.open_clause
finish_at n Outside s = fault NotATree n
finish_at n Inside s = fault ClauseNotEnded n
finish_at n Complete s = Ok (record { vars = greatest_in s.clauses.done; clauses = s.clauses.done }, s.walk.cubes)

-- the formula and the cubes at the end of a text of n lines, or the fault that it ends too early
unfoldable pub finish : ℕ → ReadState → Result (Cnf × List Cube) IcnfFault
finish n s = finish_at n s.walk.stage s

-- Ok if no token follows the header's two tokens, otherwise the fault
abbrev pub header_end : ℕ → List (List ℕ) → Result (Unit {0}) IcnfFault
header_end line [] = Ok tt
header_end line (word ∷ more) = fault BadHeader line

-- Ok if the header is right from its second token on, which must be inccnf, otherwise the fault
abbrev pub header_two : ℕ → List (List ℕ) → Result (Unit {0}) IcnfFault
header_two line [] = fault BadHeader line
header_two line (word ∷ more) = if bytes_eq word (codes "inccnf") then header_end line more else fault BadHeader line

-- Ok if the tokens are those of the header, of which the first must be p, otherwise the fault
unfoldable pub read_header : ℕ → List (List ℕ) → Result (Unit {0}) IcnfFault
read_header line [] = fault BadHeader line
read_header line (word ∷ more) = if bytes_eq word (codes "p") then header_two line more else fault NoHeader line

-- the state of the body before its first token, within the limits L
abbrev pub start : Limits → ReadState
start L = record { limits = L; clauses = record { done = []; open_clause = []; total = 0 }; walk = record { stage = Clauses; cubes = []; path = []; forced = [] } }

-- the format iCNF: the first line with a token is the header, and after it come clauses, and then cubes
abbrev pub format : Format ReadState (Cnf × List Cube) IcnfFault
format = record {
  no_header = λ n. record { kind = NoHeader; line = n };
  header = λ L line words. read_header line words >>= λ h. Ok (start L);
  token = read_token;
  finish = finish;
}

-- the formula and the cubes of a text within the limits L, or its first fault
abbrev pub parse_within : Limits → List ℕ → Result (Cnf × List Cube) IcnfFault
parse_within L text = read_text format L 0 (lines text)

-- the formula and the cubes of a text within the written limits, or its first fault
abbrev pub parse : List ℕ → Result (Cnf × List Cube) IcnfFault
parse text = parse_within written text

-- a call has the expected result, or answers that memory was refused
abbrev pub GivesTree : Result (Cnf × List Cube) IcnfFault → Result (Cnf × List Cube) IcnfFault → Type 0
GivesTree result expected = Answers no_memory result expected
