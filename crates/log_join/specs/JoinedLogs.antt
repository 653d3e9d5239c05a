-- The join of logs over a formula, which close the leaves of a splitting tree: one proof of the formula.
use Rattle.std.specs.Prelude.{◌≡◌, ℕ, zero, suc, ◌+◌, ◌<◌, ◌^◌, Bool, true, false, Option, Some, None, List, [], ◌∷◌, ◌++◌, length, map, take, drop, fold, Contains, All}
use Rattle.std.specs.FinMap.{get}
use Rattle.dimacs.specs.logic.Cnf.{Cnf}
use Rattle.dimacs.specs.logic.ClauseMap.{ClauseMap, map_of}
use Rattle.dimacs.specs.logic.Literal.{Literal, Clause, negation, var_of}
use Rattle.icnf.specs.Leaves.{Cube, IsFree}
use Rattle.lrat_text.specs.Grammar.{IsStepWithin}
use Rattle.lrat_text.specs.Log.{IsLog, additions, log_top}
use Rattle.lrat_text.specs.Runs.{after_steps, top_of, text_of}
use Rattle.lrat_text.specs.declared.step.Step.{Step}
use Rattle.lrat_text.specs.declared.step.Step.TheVariants.{Delete}
use Rattle.proof_join.specs.JoinedProof.{Part, fork_part}
use Rattle.proof_join.specs.RenumberedSteps.{behind, renumbered}
use Rattle.log_join.specs.ClosedLeaves.{Numbered, Leaf, closes, all_settled, spent}

-- a log that was handed in, and whether it was accepted; a refused log has the steps before its fault
pub record Handed : Type 0 where
  pub steps : List Step
  pub accepted : Bool

-- the lemmas, with the clause C under the number n before them if there is one
abbrev pub with_live : ℕ → Option Clause → List Numbered → List Numbered
with_live n None lemmas = lemmas
with_live n (Some C) lemmas = record { id = n; clause = C } ∷ lemmas

-- the live clauses of M under the `count` numbers from `first` on, by rising numbers; clause n is numbered f n
abbrev pub live_from : (ℕ → ℕ) → ClauseMap → ℕ → ℕ → List Numbered
live_from f M first zero = []
live_from f M first (suc count) = with_live (f first) (get M first) (live_from f M (first + 1) count)

-- the lemmas of a log that are live at its end, under their numbers in the join: these go on after t
abbrev pub lemmas_of : Cnf → ℕ → List Step → List Numbered
lemmas_of F t log = live_from (behind (length F.clauses) t) (after_steps (map_of F) log) (length F.clauses + 1) (additions log)

-- deletions of these numbers, at most 1,000 a line and at most this number of lines; no line if there is no number
abbrev pub deletions_in : ℕ → List ℕ → List Step
deletions_in zero ids = []
deletions_in (suc lines) [] = []
deletions_in (suc lines) (id ∷ ids) = Delete (take 1000 (id ∷ ids)) ∷ deletions_in lines (drop 1000 (id ∷ ids))

-- deletions of these numbers, at most 1,000 a line; no line if there is no number
abbrev pub deletions : List ℕ → List Step
deletions ids = deletions_in (length ids) ids

-- the numbers that are deleted after a log: those of the lemmas that closed no open leaf; of a refused log, which closes none, all
abbrev pub deleted : Bool → List Leaf → List Numbered → List ℕ
deleted true leaves lemmas = spent leaves lemmas
deleted false leaves lemmas = spent [] lemmas

-- the leaves after a log: its lemmas close those that they can; a refused log closes none
abbrev pub left_by : Bool → List Leaf → List Numbered → List Leaf
left_by true leaves lemmas = all_settled leaves lemmas
left_by false leaves lemmas = leaves

-- the state of a join: the steps so far, their greatest number, and the leaves
pub record JoinState : Type 0 where
  pub steps : List Step
  pub top : ℕ
  pub leaves : List Leaf

-- the state before the first log: no step, and each leaf is open
abbrev pub nothing : Cnf → List Cube → JoinState
nothing F cubes = record { steps = []; top = length F.clauses; leaves = map (λ q. record { cube = q; closing = None }) cubes }

-- the state after one more log: its steps are appended, with the numbers above the formula's going on after the greatest so far, and then
-- its deletions
abbrev pub with_log : Cnf → JoinState → Handed → JoinState
with_log F g h =
    let lemmas : List Numbered = lemmas_of F g.top h.steps in
    record {
      steps = (g.steps ++ map (renumbered (behind (length F.clauses) g.top)) h.steps) ++ deletions (deleted h.accepted g.leaves lemmas);
      top = g.top + additions h.steps;
      leaves = left_by h.accepted g.leaves lemmas;
    }

-- the state after these logs, in the order in which they were handed in
abbrev pub joined_so_far : Cnf → List Cube → List Handed → JoinState
joined_so_far F cubes logs = fold (with_log F) (nothing F cubes) logs

-- a splitting tree whose leaves are closed, each by the clause under a number
pub data Ended : Type 0 where
  leaf : ℕ → Clause → Ended
  fork : (x : Literal) → Ended → Ended → Ended

-- the leaves of a closed tree below a path, from left to right
abbrev pub ends : Cube → Ended → List Leaf
ends path (leaf id C) = record { cube = path; closing = Some (record { id = id; clause = C }) } ∷ []
ends path (fork x left right) = ends (path ++ x ∷ []) left ++ ends (path ++ negation x ∷ []) right

-- in a closed tree below a path no fork's variable is on the path to the fork
abbrev pub AreFree : Cube → Ended → Type 0
AreFree path (leaf id C) = Unit {0}
AreFree path (fork x left right) = IsFree path (var_of x) × AreFree (path ++ x ∷ []) left × AreFree (path ++ negation x ∷ []) right

-- the lines of the forks of a closed tree below a path, each after those of its left and its right branch; t is the greatest number so far
abbrev pub forks : Cube → ℕ → Ended → Part
forks path t (leaf id C) = record { steps = []; top = t; id = id; clause = C }
forks path t (fork x left right) =
    let first : Part = forks (path ++ x ∷ []) t left in
    fork_part path x first (forks (path ++ negation x ∷ []) first.top right)

-- the steps are the join of the logs, which close every leaf: the steps joined so far, and then the lines of the forks
pub record IsJoinOf (F : Cnf) (cubes : List Cube) (logs : List Handed) (steps : List Step) : Type 0 where
  pub tree : Ended
  pub free : AreFree [] tree
  pub leaves_are : ends [] tree ≡ (joined_so_far F cubes logs).leaves
  pub is : steps ≡ (joined_so_far F cubes logs).steps ++ (forks [] (joined_so_far F cubes logs).top tree).steps

-- the text is that of the join of the logs, whose numbers stay below 2^48
pub record IsJoinTextOf (F : Cnf) (cubes : List Cube) (logs : List Handed) (text : List ℕ) : Type 0 where
  pub steps : List Step
  pub join_of : IsJoinOf F cubes logs steps
  pub numbers : top_of (length F.clauses) steps < 2 ^ 48
  pub is : text ≡ text_of (length F.clauses) steps

-- each of the handed-in logs is a log over the formula
abbrev pub AreLogs : Cnf → List Handed → Type 0
AreLogs F logs = All (λ h. IsLog F h.steps) logs

-- the steps of each of these logs are within the limits of the lines of a log over the formula
abbrev pub AreWritten : Cnf → List Handed → Type 0
AreWritten F logs = All (λ h. All (IsStepWithin (log_top F)) h.steps) logs

-- at the end of the log a lemma of its own is live that closes the leaf with the cube q
pub record ClosesLeaf (F : Cnf) (q : Cube) (log : List Step) : Type 0 where
  pub id : ℕ
  pub clause : Clause
  pub own : length F.clauses < id
  pub lives : get (after_steps (map_of F) log) id ≡ Some clause
  pub ends : closes q clause ≡ true

-- one of the accepted logs closes the leaf with the cube q
pub record IsClosedBy (F : Cnf) (logs : List Handed) (q : Cube) : Type 0 where
  pub log : Handed
  pub one : Contains logs log
  pub accepted : log.accepted ≡ true
  pub closes : ClosesLeaf F q log.steps
