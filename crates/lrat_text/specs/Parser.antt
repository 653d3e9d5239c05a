-- The step that a line spells, or its first fault, as a computation from left to right. A reader must believe only which fault comes first:
-- by the law `reading_is_spelling`, a step is read if and only if the line spells it by Grammar.
use Rattle.std.specs.Prelude.{◌≡◌, ℕ, zero, suc, ◌+◌, ◌-◌, ◌^◌, Bool, not, ◌&&◌, ◌==◌, nat_lt, nat_le, List, [], ◌∷◌, ◌++◌, length, slice_index, slice_range, drop, position, map, codes, bytes_eq, ℤ, pos, negsuc, Option, Some, None, Result, Ok, Err, if◌then◌else◌}
use Rattle.dimacs.specs.logic.Literal.{Literal, Pos, Neg}
use Rattle.dimacs.specs.text.Numbers.{number}
use Rattle.dimacs.specs.logic.Rat.{Group}
use Rattle.lrat_text.specs.Grammar.{lf, space, tokens}
use Rattle.lrat_text.specs.GroupLists.{with_hint}
use Rattle.lrat_text.specs.declared.fault.TextFault.{TextFault}
use Rattle.lrat_text.specs.declared.fault.TextFault.TheVariants.{BadToken, LineNotEnded, MissingZero, NumberTooLarge, NoMemory}
use Rattle.lrat_text.specs.declared.step.Step.{Step}
use Rattle.lrat_text.specs.declared.step.Step.TheVariants.{Add, Delete}
use Rattle.lrat_text.specs.declared.token.Token.{Token}
use Rattle.lrat_text.specs.declared.token.Token.TheVariants.{Letter, Zero, Plus, Minus, LargePlus, LargeMinus, Other}

-- the token of a word's number: 0, a positive number or a negative one, large if its absolute value is 2^48 or more; Other if the word is
-- no number
abbrev pub number_token : Option ℤ → Token
number_token None = Other
number_token (Some (pos zero)) = Zero
number_token (Some (pos (suc n))) = if nat_lt (suc n) (2 ^ 48) then Plus (suc n) else LargePlus
number_token (Some (negsuc n)) = if nat_lt (suc n) (2 ^ 48) then Minus (suc n) else LargeMinus

-- the token of a word: the letter d, a number, or neither
unfoldable pub token_of : List ℕ → Token
token_of word = if bytes_eq word (codes "d") then Letter else number_token (number word)

-- the tokens of a line
unfoldable pub line_tokens : List ℕ → List Token
line_tokens line = map token_of (tokens line)

-- the step, if no token follows the last 0; BadToken otherwise
abbrev pub ended : Step → List Token → Result Step TextFault
ended step [] = Ok step
ended step (t ∷ ts) = Err BadToken

-- the deletion of ids and of the numbers that the tokens give up to 0; or the first fault
unfoldable pub ids_in : List ℕ → List Token → Result Step TextFault
ids_in ids [] = Err MissingZero
ids_in ids (Zero ∷ ts) = ended (Delete ids) ts
ids_in ids (Plus n ∷ ts) = ids_in (ids ++ n ∷ []) ts
ids_in ids (LargePlus ∷ ts) = Err NumberTooLarge
ids_in ids (Letter ∷ ts) = Err BadToken
ids_in ids (Minus n ∷ ts) = Err BadToken
ids_in ids (LargeMinus ∷ ts) = Err BadToken
ids_in ids (Other ∷ ts) = Err BadToken

-- the addition with these parts, if the tokens, up to 0, give more hints of the last group and further groups; or the first fault
unfoldable pub groups_in : ℕ → List Literal → List ℕ → List Group → List Token → Result Step TextFault
groups_in id lits hints groups [] = Err MissingZero
groups_in id lits hints groups (Zero ∷ ts) = ended (Add id lits hints groups) ts
groups_in id lits hints groups (Plus n ∷ ts) = groups_in id lits hints (with_hint n groups) ts
groups_in id lits hints groups (Minus n ∷ ts) = groups_in id lits hints (groups ++ (n, []) ∷ []) ts
groups_in id lits hints groups (LargePlus ∷ ts) = Err NumberTooLarge
groups_in id lits hints groups (LargeMinus ∷ ts) = Err NumberTooLarge
groups_in id lits hints groups (Letter ∷ ts) = Err BadToken
groups_in id lits hints groups (Other ∷ ts) = Err BadToken

-- the addition with these parts, if the tokens give more hints, up to 0 or the first group; or the first fault
unfoldable pub hints_in : ℕ → List Literal → List ℕ → List Token → Result Step TextFault
hints_in id lits hints [] = Err MissingZero
hints_in id lits hints (Zero ∷ ts) = ended (Add id lits hints []) ts
hints_in id lits hints (Plus n ∷ ts) = hints_in id lits (hints ++ n ∷ []) ts
hints_in id lits hints (Minus n ∷ ts) = groups_in id lits hints ((n, []) ∷ []) ts
hints_in id lits hints (LargePlus ∷ ts) = Err NumberTooLarge
hints_in id lits hints (LargeMinus ∷ ts) = Err NumberTooLarge
hints_in id lits hints (Letter ∷ ts) = Err BadToken
hints_in id lits hints (Other ∷ ts) = Err BadToken

-- the addition with these parts, if the tokens, up to 0, give more literals, with variables up to most; or the first fault
unfoldable pub literals_in : ℕ → ℕ → List Literal → List Token → Result Step TextFault
literals_in most id lits [] = Err MissingZero
literals_in most id lits (Zero ∷ ts) = hints_in id lits [] ts
literals_in most id lits (Plus n ∷ ts) = if nat_le n most then literals_in most id (lits ++ Pos n ∷ []) ts else Err NumberTooLarge
literals_in most id lits (Minus n ∷ ts) = if nat_le n most then literals_in most id (lits ++ Neg n ∷ []) ts else Err NumberTooLarge
literals_in most id lits (LargePlus ∷ ts) = Err NumberTooLarge
literals_in most id lits (LargeMinus ∷ ts) = Err NumberTooLarge
literals_in most id lits (Letter ∷ ts) = Err BadToken
literals_in most id lits (Other ∷ ts) = Err BadToken

-- the step of the tokens after a line's number id: a letter d begins a deletion, everything else an addition; or the first fault
unfoldable pub body_in : ℕ → ℕ → List Token → Result Step TextFault
body_in most id [] = literals_in most id [] []
body_in most id (Letter ∷ ts) = ids_in [] ts
body_in most id (t ∷ ts) = literals_in most id [] (t ∷ ts)

-- the step of a whole line's tokens, of which the first is the line's number; or the first fault
unfoldable pub first_within : ℕ → List Token → Result Step TextFault
first_within most [] = Err BadToken
first_within most (Plus n ∷ ts) = body_in most n ts
first_within most (LargePlus ∷ ts) = Err NumberTooLarge
first_within most (Letter ∷ ts) = Err BadToken
first_within most (Zero ∷ ts) = Err BadToken
first_within most (Minus n ∷ ts) = Err BadToken
first_within most (LargeMinus ∷ ts) = Err BadToken
first_within most (Other ∷ ts) = Err BadToken

-- whether a line is not empty, and has no space at its beginning or end
abbrev pub is_trimmed : List ℕ → Bool
is_trimmed line = nat_lt 0 (length line) && not (slice_index line 0 == space) && not (slice_index line (length line - 1) == space)

-- the step that a line without its LF spells, with variables up to most, or the line's first fault
unfoldable pub step_within : ℕ → List ℕ → Result Step TextFault
step_within most line = if is_trimmed line then first_within most (line_tokens line) else Err BadToken

-- the step that a line without its LF spells, with variables up to 2,000,000, or the line's first fault
abbrev pub step_in : List ℕ → Result Step TextFault
step_in line = step_within 2000000 line

-- the step of a line and the offset after that line, or the line's fault
abbrev pub with_place : ℕ → Result Step TextFault → Result (Option (Step × ℕ)) TextFault
with_place place (Ok step) = Ok (Some (step, place))
with_place place (Err f) = Err f

-- the step of the line at offset at, and the offset after its LF; the last argument is the number of bytes before the LF, None if there is
-- no LF
abbrev pub line_at : List ℕ → ℕ → Option ℕ → Result (Option (Step × ℕ)) TextFault
line_at bytes at None = Err LineNotEnded
line_at bytes at (Some n) = with_place (at + n + 1) (step_in (slice_range bytes at (at + n)))

-- the step of the line at offset at, and the offset after its LF; None from the end of the text on; or the line's first fault
abbrev pub next_of : List ℕ → ℕ → Result (Option (Step × ℕ)) TextFault
next_of bytes at = if nat_le (length bytes) at then Ok None else line_at bytes at (position (λ b. b == lf) (drop at bytes))

-- a call that answers this fault was expected to answer it, or the fault is NoMemory
abbrev pub Fails : {A : Type 0} → TextFault → Result A TextFault → Type 0
Fails NoMemory expected = Unit {0}
Fails f expected = expected ≡ Err f

-- a call that reads into a buffer, which then holds this step, has the expected result, or memory was refused
abbrev pub GivesStep : Step → Result (Unit {0}) TextFault → Result Step TextFault → Type 0
GivesStep step (Ok _) expected = expected ≡ Ok step
GivesStep step (Err f) expected = Fails f expected

-- a call has the expected result, or memory was refused
abbrev pub Gives : {A : Type 0} → Result A TextFault → Result A TextFault → Type 0
Gives (Ok found) expected = expected ≡ Ok found
Gives (Err f) expected = Fails f expected
