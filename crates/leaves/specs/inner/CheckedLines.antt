-- What private calls promise of the lines of logs. In each definition `written` has the bytes of the proof that are already handed out.
use Rattle.std.specs.Prelude.{◌≡◌, ◌↔◌, ℕ, ◌+◌, ◌≤◌, Bool, true, false, [], ◌∷◌, ◌++◌, List, None, length, take, Contains}
use Rattle.std.specs.FinMap.{get}
use Rattle.dimacs.specs.logic.ClauseMap.{map_of}
use Rattle.dimacs.specs.logic.Cnf.{Cnf}
use Rattle.icnf.specs.Leaves.{Cube}
use Rattle.lrat_check.specs.Logs.{IsBegun, RefusesLogLine, HoldsFormula, TakesLogLine, ids_of}
use Rattle.lrat_text.specs.Log.{IsLogStep, after_step}
use Rattle.lrat_text.specs.declared.step.Step.TheVariants.{Delete}
use Rattle.lrat_text.specs.Runs.{after_steps, top_of}
use Rattle.lrat_text.specs.declared.step.Step.{Step}
use Rattle.log_join.specs.ClosedLeaves.{Leaf, is_closed}
use Rattle.log_join.specs.JoinedLogs.{ClosesLeaf, Handed, IsClosedBy, joined_so_far}
use Rattle.log_join.specs.Written.{AtLogEnd, NoneLive, WithinLog, leaves_of}
use Rattle.log_join.specs.declared.log_joiner.LogJoiner.{LogJoiner}
use Rattle.leaves.specs.declared.checked_lines.CheckedLines.{CheckedLines}
use Rattle.leaves.specs.declared.checked_lines.LineFault.{LineFault}
use Rattle.leaves.specs.declared.checked_lines.LineFault.TheVariants.{Log, Gather}
use Rattle.leaves.specs.CheckedLines.{IsBetweenLogs, IsWithinLog}

-- formula, cubes, the ended logs, steps of the log that is being read, `written`, the lines: a line of the log is refused; the checker has
-- carried out a prefix of that line's deletion, which is not yet in the proof
pub record HasPartialDeletion (F : Cnf) (cubes : List Cube) (logs : List Handed) (log : List Step) (written : List ℕ) (l : CheckedLines) : Type 0 where
  pub within : WithinLog F cubes logs log l.joiner (written ++ l.out.items)
  pub base : l.checker.base ≡ length F.clauses
  pub follows : IsLogStep (length F.clauses) (after_steps (map_of F) log) (top_of (length F.clauses) log) (Delete (take l.checker.cut (ids_of l.checker.step)))
  pub live : l.checker.live ≡ after_step (after_steps (map_of F) log) (Delete (take l.checker.cut (ids_of l.checker.step)))
  pub top : l.checker.top ≡ top_of (length F.clauses) log
  pub stands : HoldsFormula F l.checker

-- formula, cubes, the logs before, the log `h` that has ended, accepted or not, `written`, number, the joiner: the live lemmas of `h` below
-- this number are handed to the joiner
pub record AreHandedOver (F : Cnf) (cubes : List Cube) (logs : List Handed) (h : Handed) (written : List ℕ) (number : ℕ) (g : LogJoiner) : Type 0 where
  pub low : ℕ
  pub ending : AtLogEnd F cubes logs h low g written
  pub up : low ≤ number
  pub none : NoneLive (after_steps (map_of F) h.steps) low number

-- formula, cubes, the logs before, the log `h` that has ended, `written`, the lines: all live lemmas of `h` are handed to the joiner
pub record AreSettled (F : Cnf) (cubes : List Cube) (logs : List Handed) (h : Handed) (written : List ℕ) (l : CheckedLines) : Type 0 where
  pub low : ℕ
  pub ending : AtLogEnd F cubes logs h low l.joiner (written ++ l.out.items)
  pub none_left : (k : ℕ) → low ≤ k → get (after_steps (map_of F) h.steps) k ≡ None
  pub stands : HoldsFormula F l.checker

-- formula, steps of the log, leaves: the log closes one of these leaves that is open
abbrev pub ClosesOpen : Cnf → List Step → List Leaf → Type 0
ClosesOpen F log leaves = (k : Leaf) × Contains leaves k × (is_closed k ≡ false) × ClosesLeaf F k.cube log

-- formula, cubes, the logs before, steps of the log: the log closes a leaf that none of the logs before it closes
abbrev pub ClosesNewly : Cnf → List Cube → List Handed → List Step → Type 0
ClosesNewly F cubes logs log = (q : Cube) × Contains cubes q × ¬ (IsClosedBy F logs q) × ClosesLeaf F q log

-- formula, steps of the log, the leaves before, the joiner, the bool answered for lemmas that were handed to the joiner: if it is true, the
-- log closes an open one of these leaves; if it is false, the joiner's leaves are as before
pub record TellsClosing (F : Cnf) (log : List Step) (leaves : List Leaf) (g : LogJoiner) (b : Bool) : Type 0 where
  pub some : b ≡ true → ClosesOpen F log leaves
  pub none : b ≡ false → leaves_of g ≡ leaves

-- ---- calls
-- after the call a log is begun, none of whose steps is checked yet
abbrev pub BeginsLog : CheckedLines → CheckedLines → Type 0
BeginsLog old new =
    (F : Cnf) (cubes : List Cube) (logs : List Handed) (written : List ℕ) → IsBetweenLogs F cubes logs written old
    → IsWithinLog F cubes logs [] written new × IsBegun F new.checker

-- formula, cubes, the ended logs, `written`, the lines: a log is being read, some steps of which are checked and in the proof
abbrev pub IsWithinSomeLog : Cnf → List Cube → List Handed → List ℕ → CheckedLines → Type 0
IsWithinSomeLog F cubes logs written l = (log : List Step) × IsWithinLog F cubes logs log written l

-- after the call the prefix of a refused deletion that the checker has carried out is in the proof
abbrev pub WritesPartialDeletion : CheckedLines → CheckedLines → Type 0
WritesPartialDeletion old new =
    (F : Cnf) (cubes : List Cube) (logs : List Handed) (log : List Step) (written : List ℕ) → HasPartialDeletion F cubes logs log written old → IsWithinSomeLog F cubes logs written new

-- whether the log is accepted, number, the lines before and after: after the call the lemma of this number is handed to the joiner, if it
-- is live
abbrev pub HandsOver : Bool → ℕ → CheckedLines → CheckedLines → Type 0
HandsOver accepted number old new =
    (F : Cnf) (cubes : List Cube) (logs : List Handed) (log : List Step) (written : List ℕ) → old.checker.live ≡ after_steps (map_of F) log
    → AreHandedOver F cubes logs (record { steps = log; accepted = accepted }) written number old.joiner
    → AreHandedOver F cubes logs (record { steps = log; accepted = accepted }) written (number + 1) new.joiner

-- number, the lines before and after, the bool answered: it says whether the lemma of this number of an accepted log closes an open leaf
-- (`TellsClosing`)
abbrev pub TellsLemma : ℕ → CheckedLines → CheckedLines → Bool → Type 0
TellsLemma number old new b =
    (F : Cnf) (cubes : List Cube) (logs : List Handed) (log : List Step) (written : List ℕ) → old.checker.live ≡ after_steps (map_of F) log
    → AreHandedOver F cubes logs (record { steps = log; accepted = true }) written number old.joiner
    → TellsClosing F log (leaves_of old.joiner) new.joiner b

-- whether the log is accepted, the lines before and after, the bool answered: after the call all live lemmas of the log are handed to the
-- joiner; for an accepted log the bool says whether one closes an open leaf
abbrev pub SettlesLog : Bool → CheckedLines → CheckedLines → Bool → Type 0
SettlesLog accepted old new b =
    (F : Cnf) (cubes : List Cube) (logs : List Handed) (log : List Step) (written : List ℕ) → IsWithinLog F cubes logs log written old
    → AreSettled F cubes logs (record { steps = log; accepted = accepted }) written new × (accepted ≡ true → TellsClosing F log (joined_so_far F cubes logs).leaves new.joiner b)

-- whether the log is accepted, the lines before and after, the bool answered: after the call the log has ended; for an accepted log the
-- bool is true exactly if the log closes a leaf that no log before it closes
abbrev pub EndsLog : Bool → CheckedLines → CheckedLines → Bool → Type 0
EndsLog accepted old new b =
    (F : Cnf) (cubes : List Cube) (logs : List Handed) (log : List Step) (written : List ℕ) → IsWithinLog F cubes logs log written old
    → IsBetweenLogs F cubes (logs ++ record { steps = log; accepted = accepted } ∷ []) written new × (accepted ≡ true → (b ≡ true) ↔ ClosesNewly F cubes logs log)

-- ---- single lines
-- true of any lines: every line may be handed to `take_line`
abbrev pub AnyLine : CheckedLines → Type 0
AnyLine l = Unit {0}

-- the checker accepts the line, and its step is appended to the proof
pub record LineTaken (old : CheckedLines) (line : List ℕ) (new : CheckedLines) : Type 0 where
  pub takes : TakesLogLine old.checker line new.checker
  pub within : (F : Cnf) (cubes : List Cube) (logs : List Handed) (log : List Step) (written : List ℕ) → IsWithinLog F cubes logs log written old
      → IsWithinLog F cubes logs (log ++ new.checker.step ∷ []) written new

-- the checker refuses the line with this fault, and a log is still being read, some steps of which are checked and in the proof; or
-- (`Gather`) the line cannot be written, and nothing is promised
abbrev pub LineRefused : CheckedLines → List ℕ → CheckedLines → LineFault → Type 0
LineRefused old line new (Log fault) =
    RefusesLogLine old.checker line fault
    × ((F : Cnf) (cubes : List Cube) (logs : List Handed) (log : List Step) (written : List ℕ) → IsWithinLog F cubes logs log written old → IsWithinSomeLog F cubes logs written new)
LineRefused old line new (Gather fault) = Unit {0}
