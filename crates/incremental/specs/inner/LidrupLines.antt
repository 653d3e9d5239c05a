-- Lines of LIDRUP text as they are written, and the bytes of each kind of line.
use Rattle.std.specs.Prelude.{◌≡◌, List, ℕ, ◌∷◌, ◌++◌, [], Ok, map, codes, decimal}
use Rattle.std.specs.List.{flat_map}
use Rattle.dimacs.specs.logic.Literal.{Clause, Literal}
use Rattle.lrat_text.specs.Grammar.{IsClauseNumber, IsStepWithin}
use Rattle.lrat_text.specs.Lines.{IsOpen}
use Rattle.lrat_text.specs.Log.{top_after}
use Rattle.lrat_text.specs.Runs.{text_of, top_of}
use Rattle.lrat_text.specs.WrittenLine.{literals_text}
use Rattle.lrat_text.specs.declared.step.Step.{Step}
use Rattle.lrat_text.specs.declared.step.Step.TheVariants.{Add, Delete}
use Rattle.lrat_text.specs.inner.LineParts.{number_text}
use Rattle.sessions.specs.Lines.{Deletes, Learns, Line, Read, line_within}

-- greatest variable, what a line says, bytes before and after: one line was appended, and with variables up to `most` it is read as saying
-- this
pub record AppendsLine (most : ℕ) (read_as : Read) (old new : List ℕ) : Type 0 where
  pub line : List ℕ
  pub bare : IsOpen line
  pub read : line_within most line ≡ read_as
  pub text : new ≡ old ++ (line ++ 10 ∷ [])

-- greatest variable, what lines say, bytes before and after: such lines were appended, one after the other
abbrev pub AppendsLines : ℕ → List Line → List ℕ → List ℕ → Type 0
AppendsLines most [] old new = new ≡ old
AppendsLines most (says ∷ more) old new = (mid : List ℕ) × AppendsLine most (Ok says) old mid × AppendsLines most more mid new

-- what the line of LIDRUP text for a step of the log says
abbrev pub line_said : Step → Line
line_said (Add id lits hints groups) = Learns id lits hints
line_said (Delete ids) = Deletes ids

-- the step has no groups of hints
abbrev pub IsPlain : Step → Type 0
IsPlain (Add id lits hints groups) = groups ≡ []
IsPlain (Delete ids) = Unit {0}

-- the step's line with variables up to `most` can be written if `top` is the greatest number before it: its numbers are within the limits
-- of a line
abbrev pub HasLine : ℕ → ℕ → Step → Type 0
HasLine most top (Add id lits hints groups) = IsStepWithin most (Add id lits hints groups)
HasLine most top (Delete ids) = IsClauseNumber top × IsStepWithin most (Delete ids)

-- greatest variable, greatest number before the steps, steps: the line of each step can be written, and each step is plain
abbrev pub ArePlain : ℕ → ℕ → List Step → Type 0
ArePlain most top [] = Unit {0}
ArePlain most top (step ∷ steps) = HasLine most top step × IsPlain step × ArePlain most (top_after top step) steps

-- greatest variable, greatest number before the steps, steps, bytes before and after, rest of the log: the lines of the first steps were
-- appended, and the rest of the log has the lines of the others
pub record HasPut (most top : ℕ) (steps : List Step) (old new left : List ℕ) : Type 0 where
  pub done : List Step
  pub rest : List Step
  pub splits : steps ≡ done ++ rest
  pub puts : AppendsLines most (map line_said done) old new
  pub left_is : left ≡ text_of (top_of top done) rest
  pub plain : ArePlain most (top_of top done) rest

-- ---- bytes of the lines
-- number, literals, hints: `ID LITERALS 0 HINTS 0` and a newline, a line of LRAT text
abbrev pub addition_text : ℕ → List Literal → List ℕ → List ℕ
addition_text id lits hints = decimal id ++ (literals_text lits ++ (flat_map number_text hints ++ codes " 0\n"))

-- number, clause: `i ID LITERALS 0`
abbrev pub given_text : ℕ → Clause → List ℕ
given_text id C = codes "i " ++ (decimal id ++ literals_text C)

-- letter, literals: `LETTER LITERALS 0`
abbrev pub listed_text : ℕ → List Literal → List ℕ
listed_text letter lits = letter ∷ literals_text lits

-- core, hints: `u LITERALS 0 HINTS 0`
abbrev pub core_text : List Literal → List ℕ → List ℕ
core_text core hints = codes "u" ++ (literals_text core ++ (flat_map number_text hints ++ codes " 0"))

-- numbers: `d IDS 0`
abbrev pub deleted_text : List ℕ → List ℕ
deleted_text ids = codes "d" ++ (flat_map number_text ids ++ codes " 0")

-- line of a log: `l ID LITERALS 0 HINTS 0`
abbrev pub learnt_text : List ℕ → List ℕ
learnt_text line = codes "l " ++ line
