-- The states of a joiner, with the bytes that it has written so far.
use Rattle.std.specs.Prelude.{◌≡◌, ℕ, ◌+◌, ◌-◌, ◌<◌, ◌≤◌, None, List, [], ◌++◌, length, map, All}
use Rattle.std.specs.FinMap.{get}
use Rattle.dimacs.specs.logic.Cnf.{Cnf}
use Rattle.dimacs.specs.logic.ClauseMap.{ClauseMap, map_of}
use Rattle.icnf.specs.Leaves.{Cube}
use Rattle.lrat_text.specs.Grammar.{IsStepWithin}
use Rattle.lrat_text.specs.Log.{IsLog, additions, log_top}
use Rattle.lrat_text.specs.Runs.{after_steps, text_of}
use Rattle.lrat_text.specs.declared.step.Step.{Step}
use Rattle.lrat_text.specs.declared.step.Step.TheVariants.{Add, Delete}
use Rattle.proof_join.specs.RenumberedSteps.{behind, renumbered}
use Rattle.log_join.specs.ClosedLeaves.{Numbered, Leaf}
use Rattle.log_join.specs.JoinedLogs.{Handed, AreLogs, AreWritten, deleted, joined_so_far, left_by, live_from}
use Rattle.log_join.specs.Trees.{leaves_in, IsSubtree, IsIndexed}
use Rattle.log_join.specs.declared.log_joiner.LogJoiner.{LogJoiner}

-- the leaves of a joiner's tree, each with the lemma that closes it
abbrev pub leaves_of : LogJoiner → List Leaf
leaves_of g = leaves_in g.tree

-- the step is an addition without groups, or a deletion
abbrev pub HasNoGroups : Step → Type 0
HasNoGroups (Add id lits hints groups) = groups ≡ []
HasNoGroups (Delete ids) = Unit {0}

-- the bytes written are the lines of these steps, and the joiner has their greatest number, and these leaves. Nothing is said of the bytes
-- if the formula has no clause, since it has no proof
pub record IsInStep (F : Cnf) (cubes : List Cube) (g : LogJoiner) (steps : List Step) (high : ℕ) (some : List Leaf) (written : List ℕ) : Type 0 where
  pub base : g.base ≡ length F.clauses
  pub top : g.top ≡ high
  pub tree : IsSubtree [] g.tree
  pub indexed : IsIndexed g.index g.unclosed.items g.tree
  pub leaves : leaves_of g ≡ some
  pub text : 1 ≤ length F.clauses → written ≡ text_of (length F.clauses) steps

-- between two logs: the bytes written are the join of the logs that were handed in
pub record BetweenLogs (F : Cnf) (cubes : List Cube) (logs : List Handed) (g : LogJoiner) (written : List ℕ) : Type 0 where
  pub are : AreLogs F logs
  pub limits : AreWritten F logs
  pub stands : IsInStep F cubes g (joined_so_far F cubes logs).steps (joined_so_far F cubes logs).top (joined_so_far F cubes logs).leaves written
  pub none_spent : g.spent.items ≡ []
  pub vars : F.vars ≤ 199999999

-- the steps written after these logs and the beginning of one more
abbrev pub steps_within : Cnf → List Cube → List Handed → List Step → List Step
steps_within F cubes logs log = (joined_so_far F cubes logs).steps ++ map (renumbered (behind (length F.clauses) (joined_so_far F cubes logs).top)) log

-- within a log or at its end: the steps of `log` so far are written after the join of `logs`, the leaves are `some`, and `ids` will be
-- deleted
pub record IsUnderWay (F : Cnf) (cubes : List Cube) (logs : List Handed) (log : List Step) (some : List Leaf) (ids : List ℕ) (g : LogJoiner) (written : List ℕ) : Type 0 where
  pub are : AreLogs F logs
  pub before : AreWritten F logs
  pub is_log : IsLog F log
  pub limits : All (IsStepWithin (log_top F)) log
  pub begun : g.begun ≡ (joined_so_far F cubes logs).top
  pub stands : IsInStep F cubes g (steps_within F cubes logs log) ((joined_so_far F cubes logs).top + additions log) some written
  pub spent_are : g.spent.items ≡ ids
  pub vars : F.vars ≤ 199999999

-- within a log, no lemma of which was taken yet: these steps of it are written after the join of `logs`
abbrev pub WithinLog : Cnf → List Cube → List Handed → List Step → LogJoiner → List ℕ → Type 0
WithinLog F cubes logs log g written = IsUnderWay F cubes logs log (joined_so_far F cubes logs).leaves [] g written

-- the lemmas of the log that are live at its end and have numbers below n in the log, under their numbers in the join
abbrev pub lemmas_below : Cnf → List Cube → List Handed → List Step → ℕ → List Numbered
lemmas_below F cubes logs log n =
    live_from (behind (length F.clauses) (joined_so_far F cubes logs).top) (after_steps (map_of F) log) (length F.clauses + 1) (n - (length F.clauses + 1))

-- at the end of a log: its live lemmas with numbers below n were taken, so that they closed leaves or are noted to be deleted
pub record AtLogEnd (F : Cnf) (cubes : List Cube) (logs : List Handed) (h : Handed) (n : ℕ) (g : LogJoiner) (written : List ℕ) : Type 0 where
  pub low : length F.clauses < n
  pub way : IsUnderWay F cubes logs h.steps
      (left_by h.accepted (joined_so_far F cubes logs).leaves (lemmas_below F cubes logs h.steps n))
      (deleted h.accepted (joined_so_far F cubes logs).leaves (lemmas_below F cubes logs h.steps n)) g written

-- no clause is live under a number in from..below
abbrev pub NoneLive : ClauseMap → ℕ → ℕ → Type 0
NoneLive M from below = (k : ℕ) → from ≤ k → k < below → get M k ≡ None

-- bytes were appended of which P holds
abbrev pub Appends : List ℕ → List ℕ → (List ℕ → Type 0) → Type 0
Appends old new P = (more : List ℕ) × (new ≡ old ++ more) × P more
