-- What no step of a worker changes, as relations of the states before and after.
use Rattle.std.specs.Prelude.{◌≡◌, ◌≢◌, ◌⊎◌}
use Rattle.lrat_check.specs.Verdicts.{Right}
use Rattle.lrat_check.specs.declared.verdict.Verdict.TheVariants.{Nothing}
use Rattle.lrat_check.specs.declared.verdict.Reaction.TheVariants as reaction
use Rattle.evidence.specs.Events.{Given, Reacted}
use Rattle.worker_core.specs.Worker.{WorkerState}

-- a verdict that is held stays held
abbrev pub KeepsVerdict : WorkerState → WorkerState → Type 0
KeepsVerdict old new = old.verdict ≢ Nothing → new.verdict ≡ old.verdict

-- formula, base, number and incarnation are unchanged
pub record KeepsIdentity (old new : WorkerState) : Type 0 where
  pub formula : new.formula ≡ old.formula
  pub wanted : new.wanted ≡ old.wanted
  pub base : new.base ≡ old.base
  pub number : new.number ≡ old.number
  pub incarnation : new.incarnation ≡ old.incarnation

-- if the output is `Ignored` or `NoMemory`, the state is unchanged
abbrev pub ChangesNothing : Given → WorkerState → WorkerState → Type 0
ChangesNothing given old new = (given ≡ Reacted reaction.Ignored) ⊎ (given ≡ Reacted reaction.NoMemory) → new ≡ old

-- the worker's verdict is right for its formula
abbrev pub HoldsRight : WorkerState → Type 0
HoldsRight w = Right w.formula w.verdict
