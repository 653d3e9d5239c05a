-- Logs of several searches of one formula that take over lemmas of one another, and what follows from them.
use Rattle.std.specs.Prelude.{◌≡◌, ℕ, ◌+◌, ◌<◌, Bool, List, [], ◌∷◌, ◌++◌, length, fold, IsSome, nat_eq, All, Contains}
use Rattle.std.specs.List.{IsDistinct}
use Rattle.std.specs.FinMap.{get, insert}
use Rattle.dimacs.specs.logic.Literal.{Clause, IsTrueIn}
use Rattle.dimacs.specs.logic.Cnf.{Cnf, Sat}
use Rattle.dimacs.specs.logic.ClauseMap.{ClauseMap, map_of, live_in}
use Rattle.dimacs.specs.logic.Propagation.{Rup}
use Rattle.lrat_text.specs.Proof.{without}

-- ---- one log
-- A line of a log. Lemma: number, clause, hints. Import, a clause that a log of some name has as a lemma: number, clause, that name, the
-- lemma's number there. Deletion: the numbers that go. Clock: the time from here on.
pub data SharedStep : Type 0 where
  Lemma : ℕ → Clause → List ℕ → SharedStep
  Import : ℕ → Clause → List ℕ → ℕ → SharedStep
  Deletion : List ℕ → SharedStep
  Clock : ℕ → SharedStep

-- the state of a log between two lines: its live clauses, the last number that it gave, and the time by its clock
pub record SharedLogState : Type 0 where
  pub live : ClauseMap
  pub last : ℕ
  pub clock : ℕ

-- the state before the first line of a log over the formula
abbrev pub initial_state : Cnf → SharedLogState
initial_state F = record { live = map_of F; last = length F.clauses; clock = 0 }

-- the time by the clock after a line, if before it the clock was at that time
abbrev pub clock_after : ℕ → SharedStep → ℕ
clock_after clock (Lemma number C hints) = clock
clock_after clock (Import number C name there) = clock
clock_after clock (Deletion numbers) = clock
clock_after clock (Clock time) = time

-- the live clauses after a line, if those before it are M
abbrev pub live_after : ClauseMap → SharedStep → ClauseMap
live_after M (Lemma number C hints) = insert M number C
live_after M (Import number C name there) = insert M number C
live_after M (Deletion numbers) = without M numbers
live_after M (Clock time) = M

-- the last number given after a line
abbrev pub last_after : ℕ → SharedStep → ℕ
last_after last (Lemma number C hints) = number
last_after last (Import number C name there) = number
last_after last (Deletion numbers) = last
last_after last (Clock time) = last

-- the state after a line
abbrev pub after_line : SharedLogState → SharedStep → SharedLogState
after_line s line = record { live = live_after s.live line; last = last_after s.last line; clock = clock_after s.clock line }

-- A line of a log over a formula of m clauses, in this state: a lemma under the next number, by reverse unit propagation; an import under
-- the next number; a deletion of distinct live clauses, none of them the formula's; or a later time.
abbrev pub IsSharedStep : ℕ → SharedLogState → SharedStep → Type 0
IsSharedStep m s (Lemma number C hints) = (number ≡ s.last + 1) × Rup (live_in s.live) C hints
IsSharedStep m s (Import number C name there) = number ≡ s.last + 1
IsSharedStep m s (Deletion numbers) = All (λ n. m < n) numbers × All (λ n. IsSome (get s.live n)) numbers × IsDistinct nat_eq numbers
IsSharedStep m s (Clock time) = s.clock < time

-- each line is one of a log over a formula of m clauses, in the state after the lines before it
abbrev pub AreSharedSteps : ℕ → SharedLogState → List SharedStep → Type 0
AreSharedSteps m s [] = Unit {0}
AreSharedSteps m s (line ∷ lines) = IsSharedStep m s line × AreSharedSteps m (after_line s line) lines

-- the lines are a log over the formula, whatever the imports name
abbrev pub IsSharedLog : Cnf → List SharedStep → Type 0
IsSharedLog F steps = AreSharedSteps (length F.clauses) (initial_state F) steps

-- the time by the clock after these first lines of a log; before the first line it is 0
abbrev pub clock_of : List SharedStep → ℕ
clock_of lines = fold clock_after 0 lines

-- the log has this line, and its clock is at this time there
pub record HasLine (steps : List SharedStep) (line : SharedStep) (time : ℕ) : Type 0 where
  pub before : List SharedStep
  pub after : List SharedStep
  pub splits : steps ≡ before ++ line ∷ after
  pub clock : clock_of before ≡ time

-- the log has the clause as a lemma of its own under this number, written when its clock was at this time
abbrev pub Writes : List SharedStep → ℕ → Clause → ℕ → Type 0
Writes steps number C time = (hints : List ℕ) × HasLine steps (Lemma number C hints) time

-- the log imports the clause when its clock is at this time, as the lemma that the log of this name has under the number there
abbrev pub Imports : List SharedStep → Clause → List ℕ → ℕ → ℕ → Type 0
Imports steps C name there time = (number : ℕ) × HasLine steps (Import number C name there) time

-- ---- a cell
-- a log with its name
pub record SharedLog : Type 0 where
  pub name : List ℕ
  pub steps : List SharedStep

-- a cell: the logs of searches that share lemmas
abbrev pub Cell : Type 0
Cell = List SharedLog

-- some log of the cell has this name, and writes the clause as a lemma under this number while its clock is below this time
pub record IsSupported (cell : Cell) (time : ℕ) (C : Clause) (name : List ℕ) (number : ℕ) : Type 0 where
  pub log : SharedLog
  pub within : Contains cell log
  pub named : log.name ≡ name
  pub written : ℕ
  pub writes : Writes log.steps number C written
  pub earlier : written < time

-- each import of the log is supported at the time that the log's own clock shows at that line
abbrev pub AreImportsSupported : Cell → List SharedStep → Type 0
AreImportsSupported cell steps =
    (C : Clause) (name : List ℕ) (there time : ℕ) → Imports steps C name there time → IsSupported cell time C name there

-- every log of the cell is one over the formula, and its imports are supported
pub record IsCell (F : Cnf) (cell : Cell) : Type 0 where
  pub logs : (log : SharedLog) → Contains cell log → IsSharedLog F log.steps
  pub imports : (log : SharedLog) → Contains cell log → AreImportsSupported cell log.steps

-- ---- what follows
-- the clause follows from the formula: every assignment that satisfies the formula makes the clause true
abbrev pub Follows : Cnf → Clause → Type 0
Follows F C = (a : ℕ → Bool) → Sat a F → IsTrueIn a C

-- a theorem: each lemma that a log of a cell writes follows from the formula
abbrev pub SharedLemmasFollow : Type 0
SharedLemmasFollow =
    (F : Cnf) (cell : Cell) → IsCell F cell → (log : SharedLog) → Contains cell log → (number : ℕ) (C : Clause) (time : ℕ)
    → Writes log.steps number C time → Follows F C

-- a theorem: so does each clause that a log of a cell imports
abbrev pub ImportsFollow : Type 0
ImportsFollow =
    (F : Cnf) (cell : Cell) → IsCell F cell → (log : SharedLog) → Contains cell log → (C : Clause) (name : List ℕ) (there time : ℕ)
    → Imports log.steps C name there time → Follows F C
