-- What no step of a coordinator changes, as relations of the states before and after.
use Rattle.std.specs.Prelude.{◌≡◌, ◌≢◌, length, ◌⊎◌}
use Rattle.lrat_check.specs.declared.verdict.Verdict.TheVariants.{Nothing}
use Rattle.lrat_check.specs.declared.verdict.Reaction.TheVariants as reaction
use Rattle.evidence.specs.Events.{Given, Reacted}
use Rattle.coordinator_core.specs.Coordinator.{CoordinatorState}

-- a verdict that is held stays held
abbrev pub KeepsVerdict : CoordinatorState → CoordinatorState → Type 0
KeepsVerdict old new = old.verdict ≢ Nothing → new.verdict ≡ old.verdict

-- what the coordinator was made with is unchanged: formula, definitions, session, limit, initial tree and number of workers
pub record KeepsIdentity (old new : CoordinatorState) : Type 0 where
  pub formula : new.formula ≡ old.formula
  pub definitions : new.definitions ≡ old.definitions
  pub session : new.session ≡ old.session
  pub limit : new.limit ≡ old.limit
  pub initial_tree : new.initial_tree ≡ old.initial_tree
  pub workers : length new.jobs ≡ length old.jobs

-- if the output is `Ignored` or `NoMemory`, the state is unchanged
abbrev pub ChangesNothing : Given → CoordinatorState → CoordinatorState → Type 0
ChangesNothing given old new = (given ≡ Reacted reaction.Ignored) ⊎ (given ≡ Reacted reaction.NoMemory) → new ≡ old
