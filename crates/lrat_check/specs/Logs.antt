-- Logs, line by line: the state of a checker of logs, what a line leads to, and the first fault of a text.
use Rattle.std.specs.Prelude.{◌≡◌, ◌⊎◌, ℕ, ◌+◌, ◌<◌, ◌≤◌, ◌^◌, true, false, ◌==◌, nat_le, List, [], ◌∷◌, Option, Some, None, Result, Ok, Err, is_some, length, take, if◌then◌else◌}
use Rattle.std.specs.FinMap.{get, remove}
use Rattle.dimacs.specs.logic.ClauseMap.{ClauseMap, map_of}
use Rattle.dimacs.specs.logic.Cnf.{Cnf}
use Rattle.dimacs.specs.logic.Literal.{Clause}
use Rattle.dimacs.specs.logic.Propagation.{negations}
use Rattle.dimacs.specs.logic.Rat.{Group}
use Rattle.dimacs.specs.text.Words.{lines}
use Rattle.lrat_text.specs.Faults.{fault_number}
use Rattle.lrat_text.specs.Grammar.{LineSpellsWithin, SpellsStepWithin}
use Rattle.lrat_text.specs.Log.{IsLog, IsLogStep, after_step, log_top, top_after}
use Rattle.lrat_text.specs.Parser.{step_within}
use Rattle.lrat_text.specs.declared.fault.TextFault.{TextFault}
use Rattle.lrat_text.specs.declared.step.Step.{Step}
use Rattle.lrat_text.specs.declared.step.Step.TheVariants.{Add, Delete}
use Rattle.lrat_check.specs.ProofFaults.{no_memory, text_end, by_pieces}
use Rattle.lrat_check.specs.StepFaults.{Walk, Through, Conflict, Fault, walk, is_tautology, has_groups}
use Rattle.lrat_check.specs.FaultNumbers.{step_fault_number}
use Rattle.lrat_check.specs.declared.line_checker.CheckFault.{CheckFault}

-- ---- a step
-- the fault of propagation along all hints of a lemma without a group: 15 if it ends in no conflict
abbrev pub rup_fault : Walk → Option ℕ
rup_fault (Through α) = Some 15
rup_fault Conflict = None
rup_fault (Fault fault) = Some (step_fault_number fault)

-- the number of a lemma's first fault: it is a tautology (4), it has a group (15), or the fault of its hints
abbrev pub log_lemma_fault : ClauseMap → Clause → List ℕ → List Group → Option ℕ
log_lemma_fault M C hints groups = if is_tautology C then Some 4 else if has_groups groups then Some 15 else rup_fault (walk M false hints (negations C))

-- the number of an addition's first fault: its number is not top + 1 (2), or the fault of its lemma
abbrev pub log_addition_fault : ClauseMap → ℕ → ℕ → Clause → List ℕ → List Group → Option ℕ
log_addition_fault M top id C hints groups = if id == top + 1 then log_lemma_fault M C hints groups else Some 2

-- the number of a deletion's first fault, from the left: a number is at most b and so of the base (16), or is not live by then (3)
abbrev pub log_deletion_fault : ℕ → ClauseMap → List ℕ → Option ℕ
log_deletion_fault b M [] = None
log_deletion_fault b M (id ∷ ids) =
    if nat_le id b then Some 16 else if is_some (get M id) then log_deletion_fault b (remove M id) ids else Some 3

-- the number of the first fault of a step of a log over a base of b clauses
abbrev pub log_step_fault : ℕ → ClauseMap → ℕ → Step → Option ℕ
log_step_fault b M top (Add id lits hints groups) = log_addition_fault M top id lits hints groups
log_step_fault b M top (Delete ids) = log_deletion_fault b M ids

-- ---- a line
-- The state of a checker of logs: the number of clauses of its formula, the live clauses, the number of the last addition, the number of
-- the next line (from 1), the step that was read last, the number of lemmas that a refused deletion deleted before its fault (else 0), and
-- the greatest variable that a line may have.
pub record LogState : Type 0 where
  pub base : ℕ
  pub live : ClauseMap
  pub top : ℕ
  pub line : ℕ
  pub step : Step
  pub cut : ℕ
  pub most : ℕ

-- the state after a line that spells this step, if the state before it is s
abbrev pub after_line : LogState → Step → LogState
after_line s step = record { base = s.base; live = after_step s.live step; top = top_after s.top step; line = s.line + 1; step = step; cut = 0; most = s.most }

-- the line, whose text has no LF, spells a step of a log, which leads from the state old to the state new; the greatest variable that a
-- line may have is below 2^48, and stays
pub record TakesLogLine (old : LogState) (text : List ℕ) (new : LogState) : Type 0 where
  pub spells : SpellsStepWithin old.most text new.step
  pub follows : IsLogStep old.base old.live old.top new.step
  pub live : new.live ≡ after_step old.live new.step
  pub top : new.top ≡ top_after old.top new.step
  pub base : new.base ≡ old.base
  pub line : new.line ≡ old.line + 1
  pub cut : new.cut ≡ 0
  pub few : old.most < 2 ^ 48
  pub most : new.most ≡ old.most

-- the result of a line that spells this step, in the state s: the state after it, or the fault of this number
abbrev pub by_fault : LogState → Step → Option ℕ → Result LogState CheckFault
by_fault s step None = Ok (after_line s step)
by_fault s step (Some number) = Err (record { number = number; line = s.line; text = 0 })

-- the result of a line, in the state s, from what parsing the line gave: a line that spells no step has the fault 1
abbrev pub line_read : LogState → Result Step TextFault → Result LogState CheckFault
line_read s (Err fault) = Err (record { number = 1; line = s.line; text = fault_number fault })
line_read s (Ok step) = by_fault s step (log_step_fault s.base s.live s.top step)

-- The result of a line, in the state s: the state after it, or its first fault. The fault is 1 if the line spells no step, otherwise that
-- of its step.
abbrev pub log_line : LogState → List ℕ → Result LogState CheckFault
log_line s line = line_read s (step_within s.most line)

-- in the state old the line is refused with this fault: its first one, or that memory was refused
abbrev pub RefusesLogLine : LogState → List ℕ → CheckFault → Type 0
RefusesLogLine old line fault = (fault ≡ no_memory) ⊎ (log_line old line ≡ Err fault)

-- the numbers that a step deletes; none if it is an addition
abbrev pub ids_of : Step → List ℕ
ids_of (Add id lits hints groups) = []
ids_of (Delete ids) = ids

-- A refused line leads from the state old to the state new: the lemmas of the first new.cut numbers of its step have been deleted, as a log
-- may delete them. The other live clauses, the base, the last added number and the line's number have not changed.
pub record DeletesPrefix (old new : LogState) : Type 0 where
  pub base : new.base ≡ old.base
  pub top : new.top ≡ old.top
  pub line : new.line ≡ old.line
  pub within : new.cut ≤ length (ids_of new.step)
  pub follows : IsLogStep old.base old.live old.top (Delete (take new.cut (ids_of new.step)))
  pub live : new.live ≡ after_step old.live (Delete (take new.cut (ids_of new.step)))
  pub most : new.most ≡ old.most

-- ---- a log over a formula
-- in the state s no line of a log over the formula F has been taken
pub record IsBegun (F : Cnf) (s : LogState) : Type 0 where
  pub base : s.base ≡ length F.clauses
  pub live : s.live ≡ map_of F
  pub top : s.top ≡ length F.clauses
  pub line : s.line ≡ 1
  pub cut : s.cut ≡ 0
  pub most : s.most ≡ log_top F

-- the live clauses with numbers up to b are those of M, and no live clause has a number above top
pub record ExtendsBase (M : ClauseMap) (b top : ℕ) (live : ClauseMap) : Type 0 where
  pub kept : (n : ℕ) → n ≤ b → get live n ≡ get M n
  pub none_above : (n : ℕ) → top < n → get live n ≡ None

-- in the state s the clauses of the formula F are live, and all other live clauses have numbers after those of F, up to top; the greatest
-- variable that a line may have is that of logs over F
pub record HoldsFormula (F : Cnf) (s : LogState) : Type 0 where
  pub base : s.base ≡ length F.clauses
  pub rises : s.base ≤ s.top
  pub behind : ExtendsBase (map_of F) s.base s.top s.live
  pub most : s.most ≡ log_top F

-- each formula that was held in the state old is held in the state new
abbrev pub KeepsFormula : LogState → LogState → Type 0
KeepsFormula old new = (F : Cnf) → HoldsFormula F old → HoldsFormula F new

-- the text spells the steps of a log over the formula F
abbrev pub SpellsLog : Cnf → List ℕ → Type 0
SpellsLog F text = (steps : List Step) × LineSpellsWithin (log_top F) text steps × IsLog F steps

-- ---- a text
-- the result of a text from a line's result on: the line's fault, or what later gives in the state after the line
abbrev pub by_line : Result LogState CheckFault → (LogState → Result (Unit {0}) CheckFault) → Result (Unit {0}) CheckFault
by_line (Ok s) later = later s
by_line (Err fault) later = Err fault

-- The result of a text whose pieces between LFs are piece and then pieces, in the state s: the fault of its first line that has one, or
-- what at_end gives for the last piece, which no LF ends.
unfoldable pub pieces_from : (LogState → List ℕ → Result (Unit {0}) CheckFault) → LogState → List ℕ → List (List ℕ) → Result (Unit {0}) CheckFault
pieces_from at_end s piece [] = at_end s piece
pieces_from at_end s piece (next ∷ pieces) = by_line (log_line s piece) (λ t. pieces_from at_end t next pieces)

-- the result of a text in the state s: the fault of its first line that has one, or what at_end gives for the bytes after the last LF
unfoldable pub text_from : (LogState → List ℕ → Result (Unit {0}) CheckFault) → LogState → List ℕ → Result (Unit {0}) CheckFault
text_from at_end s text = by_pieces (pieces_from at_end s) (lines text)

-- the result at the end of a log, whose rest follows the last LF: nothing must follow (else 1)
abbrev pub log_end : LogState → List ℕ → Result (Unit {0}) CheckFault
log_end s rest = text_end 0 true s.line rest

-- the state of a checker of logs over the formula F before the first line
abbrev pub begun : Cnf → LogState
begun F = record { base = length F.clauses; live = map_of F; top = length F.clauses; line = 1; step = Delete []; cut = 0; most = log_top F }

-- the first fault of the text as a log over the formula F
abbrev pub log_of : Cnf → List ℕ → Result (Unit {0}) CheckFault
log_of F text = text_from log_end (begun F) text
