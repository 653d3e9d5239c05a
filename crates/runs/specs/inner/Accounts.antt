-- How a call changes the coordinator, and the counts of calls and of refusals.
use Rattle.std.specs.Prelude.{◌≡◌, ◌≢◌, ℕ, ◌+◌, ◌≤◌, ◌⊎◌, Bool, true, false, List, [], ◌∷◌, length, Result, Ok, Err}
use Rattle.dimacs.specs.logic.Cnf.{Cnf}
use Rattle.coordinator_core.specs.Coordinator.{CoordinatorState}
use Rattle.lrat_check.specs.declared.verdict.Verdict.TheVariants.{Nothing}
use Rattle.runs.specs.Accounts.{RoseBy}
use Rattle.runs.specs.declared.broken.Broken.{Broken}
use Rattle.runs.specs.declared.broken.Broken.TheVariants.{NoMemory}

-- `c` is a coordinator of the formula F that begins: it has n workers and no verdict, and is not stuck
pub record Begins (F : Cnf) (n : ℕ) (c : CoordinatorState) : Type 0 where
  pub formula : c.formula ≡ F
  pub workers : length c.jobs ≡ n
  pub verdict : c.verdict ≡ Nothing
  pub stuck : c.stuck ≡ false

-- the coordinator keeps its formula and its number of workers
pub record GoesOn (old new : CoordinatorState) : Type 0 where
  pub formula : new.formula ≡ old.formula
  pub workers : length new.jobs ≡ length old.jobs

-- the run of this coordinator is over: it holds a verdict and `hands_out` is false, or it holds none and is stuck
pub record IsOver (hands_out : Bool) (c : CoordinatorState) : Type 0 where
  pub stuck : c.verdict ≡ Nothing → c.stuck ≡ true
  pub held : hands_out ≡ true → c.verdict ≡ Nothing

-- a counter rose from `old` to `new` by at least k and by at most n
pub record RoseWithin (k n old new : ℕ) : Type 0 where
  -- by at least k, unless the counter is at its greatest number
  pub least : RoseBy k old new
  -- it did not fall
  pub rises : old ≤ new
  -- by at most n
  pub most : new ≤ old + n

-- `RoseUnless result k old new`: a counter rose from `old` to `new` by at least k, unless the result is `Err NoMemory`
abbrev pub RoseUnless : {A : Type 0} → Result A Broken → ℕ → ℕ → ℕ → Type 0
RoseUnless (Ok x) k old new = RoseBy k old new
RoseUnless (Err broken) k old new = (broken ≡ NoMemory) ⊎ RoseBy k old new

-- how many calls a receive makes at least: 1 if no frame of this list waits, else 0
abbrev pub one_if_none : {A : Type 0} → List A → ℕ
one_if_none [] = 1
one_if_none (x ∷ xs) = 0

-- how many calls may have been refused in a call with this result: 1 if it is `Err`, else 0
abbrev pub one_if_err : {A E : Type 0} → Result A E → ℕ
one_if_err (Ok x) = 0
one_if_err (Err e) = 1

-- how many calls over a link may still be refused: 1 if it is open, else 0
abbrev pub one_if_open : Bool → ℕ
one_if_open true = 1
one_if_open false = 0

-- Calls were refused over the link of `worker` alone. `refusals` counts all refusals, `refused` those of each worker's link. At most `had`
-- calls could be refused before, and at most `left` can be after, so at most `had - left` were.
pub record Refuses {L : Type 0} (refusals : L → ℕ) (refused : L → ℕ → ℕ) (worker had left : ℕ) (old new : L) : Type 0 where
  -- the refusals over all links
  pub all : refusals new + left ≤ refusals old + had
  -- the refusals over the link of the worker
  pub here : refused new worker + left ≤ refused old worker + had
  -- no call over another link was refused
  pub elsewhere : (other : ℕ) → other ≢ worker → refused new other ≤ refused old other
