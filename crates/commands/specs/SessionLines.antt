-- What is printed of an answer in a session, and the statuses of answers.
use Rattle.std.specs.Prelude.{ℕ, ◌+◌, Bool, nat_le, List, [], ◌∷◌, ◌++◌, length, codes, map, take, if◌then◌else◌}
use Rattle.std.specs.Fmt.{signed_decimal}
use Rattle.cube_solve.specs.declared.answer.Answer.{Answer}
use Rattle.cube_solve.specs.declared.answer.Answer.TheVariants as answer
use Rattle.dimacs.specs.logic.Literal.{Literal, number_of}
use Rattle.dimacs.specs.text.Answer.{satisfied_lines}

-- the answer over the variables from 1 to `vars` alone
abbrev pub cut : ℕ → Answer → Answer
cut vars (answer.Satisfied values) = answer.Satisfied (take vars values)
cut vars (answer.Failed failure) = answer.Failed failure
cut vars answer.Unknown = answer.Unknown

-- the items of the f lines of a core: its literals, and then 0
abbrev pub core_items : List Literal → List (List ℕ)
core_items core = map (λ l. signed_decimal (number_of l)) core ++ codes "0" ∷ []

-- what is printed of these items after an f line's first `used` bytes: each comes after a space while the line has at most 78 bytes, else
-- on a new f line; an LF ends the last line
abbrev pub core_filled : ℕ → List (List ℕ) → List ℕ
core_filled used [] = codes "\n"
core_filled used (item ∷ items) =
    if nat_le (used + 1 + length item) 78
    then codes " " ++ item ++ core_filled (used + 1 + length item) items
    else codes "\nf " ++ item ++ core_filled (2 + length item) items

-- the f lines of a core
abbrev pub core_lines : List Literal → List ℕ
core_lines core = codes "f" ++ core_filled 1 (core_items core)

-- what is printed of a core: the s line, and its f lines if `witness`
abbrev pub failed_lines : List Literal → Bool → List ℕ
failed_lines core witness = codes "s UNSATISFIABLE\n" ++ (if witness then core_lines core else [])

-- what is printed of an answer: its s line, and if `witness` the v lines of a model, or the f lines of a core
abbrev pub answer_text : Bool → Answer → List ℕ
answer_text witness (answer.Satisfied values) = satisfied_lines values witness
answer_text witness (answer.Failed failure) = failed_lines failure.core.items witness
answer_text witness answer.Unknown = codes "s UNKNOWN\n"

-- the exit status of an answer
abbrev pub status_of : Answer → ℕ
status_of (answer.Satisfied values) = 10
status_of (answer.Failed failure) = 20
status_of answer.Unknown = 0

-- the status of the last of these answers; without one, `status`
abbrev pub status_after : ℕ → List Answer → ℕ
status_after status [] = status
status_after status (a ∷ answers) = status_after (status_of a) answers

-- the exit status of a session with these answers: that of the last one; 0 without one
abbrev pub last_status : List Answer → ℕ
last_status answers = status_after 0 answers
