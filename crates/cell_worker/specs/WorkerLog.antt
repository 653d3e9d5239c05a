-- What a worker of a cell has written: the text of a log with imports.
use Rattle.std.specs.Prelude.{◌≡◌, ℕ, ◌≤◌, Bool, List, [], ◌∷◌, ◌++◌, length, fold, All, Contains}
use Rattle.dimacs.specs.logic.Cnf.{Cnf}
use Rattle.dimacs.specs.logic.ClauseMap.{ClauseMap, live_in}
use Rattle.dimacs.specs.logic.Literal.{Literal, Clause, negation}
use Rattle.clause_arena.specs.Clauses.{Clauses}
use Rattle.lrat_text.specs.Log.{Cube, log_top}
use Rattle.watches.specs.Trails.{TrailValue}
use Rattle.shared_logs.specs.SharedLogs.{SharedLogState, SharedStep, Lemma, Import, Deletion, Clock, IsSharedLog, after_line, initial_state}
use Rattle.shared_logs.specs.SharedText.{Names, SpellsSharedWithin}
use Rattle.cube_solve.specs.Session.{IsReady, IsSolution, last_of, log_of, vars_of}
use Rattle.cube_solve.specs.SessionLog.{IsKnown}
use Rattle.cell_worker.specs.declared.turn.Turn.{Turn}
use Rattle.cell_worker.specs.declared.turn.Turn.TheVariants as turn
use Rattle.cell_worker.specs.declared.worker.CellWorker.{CellWorker}

-- ---- texts
-- the bytes are the text of a log with imports over the formula: they give these names and spell these steps
pub record IsSharedText (F : Cnf) (names : Names) (steps : List SharedStep) (bytes : List ℕ) : Type 0 where
  pub spelled : SpellsSharedWithin (log_top F) bytes names steps
  pub is_log : IsSharedLog F steps

-- the state of a log over the formula after these steps
abbrev pub log_state : Cnf → List SharedStep → SharedLogState
log_state F steps = fold after_line (initial_state F) steps

-- ---- turns
-- the line is a lemma or a deletion
abbrev pub IsOwn : SharedStep → Type 0
IsOwn (Lemma number C hints) = Unit {0}
IsOwn (Import number C name there) = ⊥
IsOwn (Deletion numbers) = Unit {0}
IsOwn (Clock time) = ⊥

-- the last of these lines is a lemma of this number, each literal of which is the negation of a literal of the query
pub record EndsClosing (query : Cube) (number : ℕ) (lines : List SharedStep) : Type 0 where
  pub front : List SharedStep
  pub clause : Clause
  pub hints : List ℕ
  pub ends : lines ≡ front ++ Lemma number clause hints ∷ []
  pub negates : (l : Literal) → Contains clause l → Contains query (negation l)

-- the end of a turn is right for the formula and the query, if these lines were written in the turn
abbrev pub IsRightTurn : Cnf → Cube → List SharedStep → Turn → Type 0
IsRightTurn F query lines (turn.Satisfied values) = IsSolution F.vars F.clauses query values
IsRightTurn F query lines (turn.Closed number) = EndsClosing query number lines
IsRightTurn F query lines turn.Limit = Unit {0}
IsRightTurn F query lines turn.Restored = Unit {0}

-- P holds if the turn ended at its limit
abbrev pub IfLimit : Turn → Type 0 → Type 0
IfLimit (turn.Satisfied values) P = Unit {0}
IfLimit (turn.Closed number) P = Unit {0}
IfLimit turn.Limit P = P
IfLimit turn.Restored P = Unit {0}

-- how many lemmas a turn writes at most besides those that its search learns: the one that closes the query, or clauses that come back
abbrev pub lemmas_besides : Cnf → Turn → ℕ
lemmas_besides F (turn.Satisfied values) = 0
lemmas_besides F (turn.Closed number) = 1
lemmas_besides F turn.Limit = 0
lemmas_besides F turn.Restored = length F.clauses

-- ---- workers
-- the formula of a worker
abbrev pub formula_in : {P : Type 0} → CellWorker P → Cnf
formula_in w = w.formula.now

-- how many variables the formula has
abbrev pub vars_in : {P : Type 0} → CellWorker P → ℕ
vars_in w = vars_of w.search

-- whether a variable is eliminated, for each of them and one for 0; no list says so if none is
abbrev pub gone_in : {P : Type 0} → CellWorker P → List Bool
gone_in w = w.eliminated.items

-- the last number that the log gave
abbrev pub last_in : {P : Type 0} → CellWorker P → ℕ
last_in w = last_of w.search

-- the time by the log's clock
abbrev pub clock_in : {P : Type 0} → CellWorker P → ℕ
clock_in w = w.clock

-- the numbers from 1 to this one stand for names
abbrev pub names_in : {P : Type 0} → CellWorker P → ℕ
names_in w = w.names

-- the invariant of a worker between two calls
pub record IsWorkerReady {P : Type 0} (is_ready : P → Clauses → TrailValue → Type 0) (attached : P → List ℕ) (w : CellWorker P) : Type 0 where
  pub session : IsReady is_ready attached w.search
  pub whole : vars_in w ≡ (formula_in w).vars

-- each clause of the map M is one of N under the same number
abbrev pub IsPartOf : ClauseMap → ClauseMap → Type 0
IsPartOf M N = (n : ℕ) (C : Clause) → live_in M n C → live_in N n C

-- formula, names, steps, bytes that are already handed out, the worker: with the bytes not handed out yet these are the text of a log with
-- imports, and the worker is where that log ends; the search knows some of the log's live clauses, and deletes none of the formula
pub record HasWritten {P : Type 0} (F : Cnf) (names : Names) (steps : List SharedStep) (text : List ℕ) (w : CellWorker P) : Type 0 where
  pub is_text : IsSharedText F names steps (text ++ w.log.items)
  pub over : formula_in w ≡ F
  pub vars : vars_in w ≡ F.vars
  pub last : (log_state F steps).last ≡ last_in w
  pub clock : (log_state F steps).clock ≡ clock_in w
  pub used : All (λ x. x.0 ≤ names_in w) names
  pub told : log_of w.search ≡ []
  pub given : List ℕ
  pub first : (n : ℕ) → n ≤ length F.clauses → Contains given n
  pub knows : ClauseMap
  pub part : IsPartOf knows (log_state F steps).live
  pub known : IsKnown given knows w.search

-- a worker that was just made has written lemmas alone, and handed nothing out
pub record HasBegun {P : Type 0} (F : Cnf) (w : CellWorker P) : Type 0 where
  pub lines : List SharedStep
  pub own : All IsOwn lines
  pub written : HasWritten F [] lines [] w

-- a turn wrote lemmas and deletions behind these steps, and its end is right
pub record HasTurned {P : Type 0} (F : Cnf) (names : Names) (steps : List SharedStep) (text : List ℕ) (query : Cube) (end_ : Turn) (w : CellWorker P) : Type 0 where
  pub lines : List SharedStep
  pub own : All IsOwn lines
  pub right : IsRightTurn F query lines end_
  pub written : HasWritten F names (steps ++ lines) text w
