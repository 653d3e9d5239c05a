-- One log in the place of the logs of a cell: it has their lemmas in the order of their clocks, under numbers of its own.
use Rattle.std.specs.Prelude.{◌≡◌, ◌⊎◌, ℕ, ◌+◌, ◌==◌, ◌≤◌, nat_le, ◌&&◌, List, [], ◌∷◌, ◌++◌, length, map, Contains, if◌then◌else◌}
use Rattle.std.specs.Str.{bytes_eq}
use Rattle.dimacs.specs.logic.Literal.{Literal, Clause, negation}
use Rattle.dimacs.specs.logic.Cnf.{Cnf}
use Rattle.dimacs.specs.logic.ClauseMap.{ClauseMap, map_of}
use Rattle.icnf.specs.Leaves.{Cube}
use Rattle.lrat_text.specs.Grammar.{LineSpellsWithin}
use Rattle.lrat_text.specs.Log.{IsLogStep, IsLog, EndsAt, Closes, log_top}
use Rattle.lrat_text.specs.Proof.{without}
use Rattle.lrat_text.specs.Runs.{after_steps, top_of}
use Rattle.lrat_text.specs.declared.step.Step.{Step}
use Rattle.lrat_text.specs.declared.step.Step.TheVariants.{Add, Delete}
use Rattle.shared_logs.specs.SharedLogs.{SharedStep, Lemma, Import, Deletion, Clock, SharedLog, Cell, IsCell, clock_of}
use Rattle.shared_logs.specs.SharedLeaves.{IsClosedIn}

-- ---- the lines of a cell in one order
-- a line with the name of its log
abbrev pub NamedLine : Type 0
NamedLine = List ℕ × SharedStep

-- those of the lines that are of the log of this name
abbrev pub lines_of : List ℕ → List NamedLine → List SharedStep
lines_of name [] = []
lines_of name (x ∷ lines) = if bytes_eq x.0 name then x.1 ∷ lines_of name lines else lines_of name lines

-- the log has a line after its own ones among these lines
abbrev pub HasMore : SharedLog → List NamedLine → Type 0
HasMore log lines = (next : SharedStep) × (rest : List SharedStep) × (log.steps ≡ lines_of log.name lines ++ next ∷ rest)

-- The lines are of logs of the cell, and of each log its first ones, in their order. Each line comes from a log whose clock is the lowest: no
-- log that has a line left there has a lower one.
pub record AreByClock (cell : Cell) (lines : List NamedLine) : Type 0 where
  pub named : (x : NamedLine) → Contains lines x → (log : SharedLog) × Contains cell log × (log.name ≡ x.0)
  pub firsts : (log : SharedLog) → Contains cell log → (rest : List SharedStep) × (log.steps ≡ lines_of log.name lines ++ rest)
  pub lowest : (before after : List NamedLine) (x : NamedLine) → lines ≡ before ++ x ∷ after → (log : SharedLog) → Contains cell log → HasMore log before
      → clock_of (lines_of x.0 before) ≤ clock_of (lines_of log.name before)

-- the lines are all lines of each log of the cell
abbrev pub AreAllLines : Cell → List NamedLine → Type 0
AreAllLines cell lines = (log : SharedLog) → Contains cell log → log.steps ≡ lines_of log.name lines

-- ---- numbers
-- For the name of a log and a number there: the number that the one log has for that clause, or 0.
abbrev pub Numbering : Type 0
Numbering = List ℕ → ℕ → ℕ

-- before the first line: in every log, the m clauses of the formula have their own numbers
abbrev pub own_numbers : ℕ → Numbering
own_numbers m name n = if nat_le n m then n else 0

-- the numbering f, with g for number n of the log of this name
abbrev pub with_number : Numbering → List ℕ → ℕ → ℕ → Numbering
with_number f name n g other k = if bytes_eq name other && n == k then g else f other k

-- the numbering after a line, where the last number of the one log is top before it: a lemma has the next number there, and an import is
-- another name of the lemma that it names
abbrev pub numbering_after : Numbering → ℕ → NamedLine → Numbering
numbering_after f top (name, Lemma number C hints) = with_number f name number (top + 1)
numbering_after f top (name, Import number C other there) = with_number f name number (f other there)
numbering_after f top (name, Deletion numbers) = f
numbering_after f top (name, Clock time) = f

-- ---- the one log
-- what a line writes to the one log, whose last number is top: a lemma, with its hints by their numbers there
abbrev pub written : Numbering → ℕ → NamedLine → List Step
written f top (name, Lemma number C hints) = Add (top + 1) C (map (f name) hints) [] ∷ []
written f top (name, Import number C other there) = []
written f top (name, Deletion numbers) = []
written f top (name, Clock time) = []

-- the line uses clause g of the one log: one of its hints has that number there, or the lemma that it imports has it
abbrev pub Uses : Numbering → NamedLine → ℕ → Type 0
Uses f (name, Lemma number C hints) g = Contains (map (f name) hints) g
Uses f (name, Import number C other there) g = f other there ≡ g
Uses f (name, Deletion numbers) g = ⊥
Uses f (name, Clock time) g = ⊥

-- one of the lines uses clause g of the one log, by the numbers at that line
abbrev pub AreUsing : Numbering → ℕ → List NamedLine → ℕ → Type 0
AreUsing f top [] g = ⊥
AreUsing f top (x ∷ lines) g = Uses f x g ⊎ AreUsing (numbering_after f top x) (top_of top (written f top x)) lines g

-- From this numbering, these live clauses and this last number on, the lines make these steps of a log over a formula of m clauses: what each
-- line writes in turn. Between two lines, clauses may be deleted that no later line uses.
pub data Weaves (m : ℕ) : Numbering → ClauseMap → ℕ → List NamedLine → List Step → Type 0 where
  ends : {f : Numbering} {M : ClauseMap} {top : ℕ} → Weaves m f M top [] []
  takes : {f : Numbering} {M : ClauseMap} {top : ℕ} {x : NamedLine} {lines : List NamedLine} {steps : List Step}
      → Weaves m (numbering_after f top x) (after_steps M (written f top x)) (top_of top (written f top x)) lines steps
      → Weaves m f M top (x ∷ lines) (written f top x ++ steps)
  deletes : {f : Numbering} {M : ClauseMap} {top : ℕ} {lines : List NamedLine} {ids : List ℕ} {steps : List Step} → IsLogStep m M top (Delete ids)
      → ((g : ℕ) → Contains ids g → ¬ (AreUsing f top lines g)) → Weaves m f (without M ids) top lines steps → Weaves m f M top lines (Delete ids ∷ steps)

-- the steps are what the lines make of the formula
abbrev pub AreWoven : Cnf → List NamedLine → List Step → Type 0
AreWoven F lines steps = Weaves (length F.clauses) (own_numbers (length F.clauses)) (map_of F) (length F.clauses) lines steps

-- ---- what is proved
-- a theorem: what the lines of a cell make, taken by the clock, is a log over the formula
abbrev pub WovenLogsAreLogs : Type 0
WovenLogsAreLogs =
    (F : Cnf) (cell : Cell) (lines : List NamedLine) (steps : List Step) → IsCell F cell → AreByClock cell lines → AreWoven F lines steps → IsLog F steps

-- one of the lines is a lemma that closes the leaf of the cube q: each literal of it is the negation of a literal of q
abbrev pub HaveClosing : Cube → List NamedLine → Type 0
HaveClosing q lines =
    (name : List ℕ) × (number : ℕ) × (C : Clause) × (hints : List ℕ) × Contains lines (name, Lemma number C hints)
    × ((l : Literal) → Contains C l → Contains q (negation l))

-- first steps of these are a log over the formula that ends at the cube q, and every text that spells those closes it
abbrev pub HavePartThatCloses : Cnf → Cube → List Step → Type 0
HavePartThatCloses F q steps =
    (part : List Step) × (rest : List Step) × (steps ≡ part ++ rest) × IsLog F part × EndsAt q part
    × ((text : List ℕ) → LineSpellsWithin (log_top F) text part → Closes F q text)

-- a theorem: if one of the lines closes the leaf of a cube, first steps of what they make do
abbrev pub WovenLogsClose : Type 0
WovenLogsClose =
    (F : Cnf) (cell : Cell) (lines : List NamedLine) (steps : List Step) (q : Cube) → IsCell F cell → AreByClock cell lines → AreWoven F lines steps
    → HaveClosing q lines → HavePartThatCloses F q steps

-- a theorem: so it is if a log of the cell closes that leaf, and all lines of the cell are taken
abbrev pub WholeCellsClose : Type 0
WholeCellsClose =
    (F : Cnf) (cell : Cell) (lines : List NamedLine) (steps : List Step) (q : Cube) → IsCell F cell → AreByClock cell lines → AreAllLines cell lines
    → AreWoven F lines steps → IsClosedIn cell q → HavePartThatCloses F q steps

-- logs of the cell that have one name have the same lines
abbrev pub AgreeByName : Cell → Type 0
AgreeByName cell = (log other : SharedLog) → Contains cell log → Contains cell other → log.name ≡ other.name → log.steps ≡ other.steps

-- a theorem: if they have, all lines of the cell can be taken by the clock, and make some steps
abbrev pub CellsCanBeWoven : Type 0
CellsCanBeWoven =
    (F : Cnf) (cell : Cell) → AgreeByName cell
    → (lines : List NamedLine) × (steps : List Step) × AreByClock cell lines × AreAllLines cell lines × AreWoven F lines steps
