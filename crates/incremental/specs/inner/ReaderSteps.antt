-- How a reader of a session's text goes on when bytes are appended.
use Rattle.std.specs.Prelude.{◌≡◌, ℕ, ◌≤◌, List, [], ◌++◌, length, Ok, codes}
use Rattle.dimacs.specs.text.Words.{lines}
use Rattle.lrat_text.specs.Grammar.{IsStepWithin}
use Rattle.lrat_text.specs.declared.step.Step.TheVariants.{Add}
use Rattle.cube_solve.specs.declared.answer.Answer as cube
use Rattle.cube_solve.specs.declared.answer.Answer.TheVariants as answer
use Rattle.sessions.specs.Answers.{Answer, Event}
use Rattle.sessions.specs.Lines.{Fails, Shows, line_within}
use Rattle.sessions.specs.Texts.{State, behind, text_from}
use Rattle.incremental.specs.SessionHistory.{literals_from}
use Rattle.incremental.specs.inner.LidrupLines.{AppendsLine}

-- events E, answers, states a and b, numbers of lines n and m (from 1), bytes before and after: the appended bytes take a reader from the
-- state a at the line n to the state b at the line m, by these events and answers
pub record TakesReader (E : List Event) (told : List Answer) (a b : State) (n m : ℕ) (old new : List ℕ) : Type 0 where
  pub bytes : List ℕ
  pub text : new ≡ old ++ bytes
  pub reads : (D : List Event) (more : List ℕ) → text_from a n (E ++ D) (lines (bytes ++ more)) ≡ behind told (text_from b m D (lines more))

-- the answer is within the limits of lines with variables up to `most`
abbrev pub IsShort : ℕ → cube.Answer → Type 0
IsShort most (answer.Satisfied values) = length values ≤ most
IsShort most (answer.Failed failure) = IsStepWithin most (Add 1 failure.core.items failure.hints.items [])
IsShort most answer.Unknown = Unit {0}

-- greatest variable, answer, bytes before and after: the lines of the answer were appended: its status, and then its model or its core
abbrev pub WritesAnswer : ℕ → cube.Answer → List ℕ → List ℕ → Type 0
WritesAnswer most (answer.Satisfied values) old new = (mid : List ℕ) × AppendsLine most (line_within most (codes "s SATISFIABLE")) old mid × AppendsLine most (Ok (Shows (literals_from 1 values))) mid new
WritesAnswer most (answer.Failed failure) old new = (mid : List ℕ) × AppendsLine most (line_within most (codes "s UNSATISFIABLE")) old mid × AppendsLine most (Ok (Fails failure.core.items failure.hints.items)) mid new
WritesAnswer most answer.Unknown old new = AppendsLine most (line_within most (codes "s UNKNOWN")) old new
