use Rattle.std.proofs.Common.{◌≡◌, ℕ, ◌<◌, false, get_or}
use Rattle.coordinator_core.specs.Coordinator.{is_open}
use Rattle.coordinator_core.specs.declared.job_state.LeafState.TheVariants.{Closed}
use Rattle.coordinator_core.proofs.leaf_table.open_from.Given as goal

-- no leaf so far is open
abbrev pub invariant-loop-i : goal.invariant-loop-i
invariant-loop-i l = (k : ℕ) → k < l.i → is_open (get_or l.states k Closed) ≡ false
