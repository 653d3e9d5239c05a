-- The lines of a LIDRUP text. Each is parsed as the line of LRAT text that stands for it.
use Rattle.std.specs.Prelude.{ℕ, ◌==◌, ◌||◌, ◌&&◌, Bool, List, [], ◌∷◌, ◌++◌, Result, Ok, Err, codes, length, slice_index, if◌then◌else◌}
use Rattle.std.specs.Str.{byte}
use Rattle.dimacs.specs.logic.Literal.{Clause}
use Rattle.lrat_text.specs.Grammar.{space}
use Rattle.lrat_text.specs.Parser.{step_within}
use Rattle.lrat_text.specs.declared.fault.TextFault.{TextFault}
use Rattle.lrat_text.specs.declared.fault.TextFault.TheVariants.{BadToken}
use Rattle.lrat_text.specs.declared.step.Step.{Step}
use Rattle.lrat_text.specs.declared.step.Step.TheVariants.{Add, Delete}
use Rattle.lidrup.specs.declared.kind.Kind.{Kind}
use Rattle.lidrup.specs.declared.kind.Kind.TheVariants as kind
use Rattle.lidrup.specs.declared.kind.StepKind.{StepKind}
use Rattle.lidrup.specs.declared.kind.StepKind.TheVariants as step

-- a line: a clause is given under a number; a lemma was learnt, with hints; the cube of the last query is closed, with those of its
-- literals that are needed, and hints; the clauses of these numbers are deleted; a cube is asked for; or the line has no effect
pub data Line : Type 0 where
  Given : ℕ → Clause → Line
  Learnt : ℕ → Clause → List ℕ → Line
  Closed : Clause → List ℕ → Line
  Deleted : List ℕ → Line
  Asked : Line
  Silent : Line

-- a line with this first letter has no effect: `s` an answer, `m` a model, `w` and `r` a clause that is weakened and restored, `f` a core,
-- `p` the head, `c` a comment, `e` the end of a query without an answer
abbrev pub is_silent : ℕ → Bool
is_silent b = b == byte "s" || b == byte "m" || b == byte "w" || b == byte "r" || b == byte "f" || b == byte "p" || b == byte "c" || b == byte "e"

-- the kind of a line by its first letter
abbrev pub kind_of : ℕ → Kind
kind_of b =
    if b == byte "i" then kind.Step step.Given
    else if b == byte "l" then kind.Step step.Learnt
    else if b == byte "u" then kind.Step step.Closed
    else if b == byte "d" then kind.Step step.Deleted
    else if b == byte "q" then kind.Asked
    else if is_silent b then kind.Silent
    else kind.Unknown

-- the bytes of a line after its letter and a space
abbrev pub body_of : List ℕ → List ℕ
body_of [] = []
body_of (letter ∷ []) = []
body_of (letter ∷ b ∷ bytes) = if b == space then bytes else []

-- the line of LRAT text that stands for a line: `ID LITERALS 0 0` for `i ID LITERALS 0`, `1 LITERALS 0 HINTS 0` for `u LITERALS 0 HINTS 0`,
-- `1 d IDS 0` for `d IDS 0`; `l ID LITERALS 0 HINTS 0` is a line of LRAT text after its letter
abbrev pub lrat_line : StepKind → List ℕ → List ℕ
lrat_line step.Given line = body_of line ++ codes " 0"
lrat_line step.Learnt line = body_of line
lrat_line step.Closed line = codes "1 " ++ body_of line
lrat_line step.Deleted line = codes "1 " ++ line

-- the result of parsing a line: the line, or its first fault
abbrev pub ParsedLine : Type 0
ParsedLine = Result Line TextFault

-- the line that gives a clause, from a step without hints and groups
abbrev pub given_by : Step → ParsedLine
given_by (Add id C hints groups) = if length hints == 0 && length groups == 0 then Ok (Given id C) else Err BadToken
given_by (Delete ids) = Err BadToken

-- the line of a learnt lemma, from a step without groups
abbrev pub learnt_by : Step → ParsedLine
learnt_by (Add id C hints groups) = if length groups == 0 then Ok (Learnt id C hints) else Err BadToken
learnt_by (Delete ids) = Err BadToken

-- the line that closes a cube, from a step without groups
abbrev pub closed_by : Step → ParsedLine
closed_by (Add id C hints groups) = if length groups == 0 then Ok (Closed C hints) else Err BadToken
closed_by (Delete ids) = Err BadToken

-- the line that deletes clauses, from a deletion
abbrev pub deleted_by : Step → ParsedLine
deleted_by (Add id C hints groups) = Err BadToken
deleted_by (Delete ids) = Ok (Deleted ids)

-- the line of this kind whose LRAT line spells this step
abbrev pub said : StepKind → Step → ParsedLine
said step.Given s = given_by s
said step.Learnt s = learnt_by s
said step.Closed s = closed_by s
said step.Deleted s = deleted_by s

-- the line of this kind, from what its LRAT line is parsed as
abbrev pub by_step : StepKind → Result Step TextFault → ParsedLine
by_step k (Ok s) = said k s
by_step k (Err fault) = Err fault

-- the line of this kind, with variables up to most, or its first fault
abbrev pub read_as : ℕ → Kind → List ℕ → ParsedLine
read_as most (kind.Step k) line = by_step k (step_within most (lrat_line k line))
read_as most kind.Asked line = Ok Asked
read_as most kind.Silent line = Ok Silent
read_as most kind.Unknown line = Err BadToken

-- the line, with variables up to most, that these bytes spell, or its first fault
abbrev pub line_in : ℕ → List ℕ → ParsedLine
line_in most line = read_as most (kind_of (slice_index line 0)) line
