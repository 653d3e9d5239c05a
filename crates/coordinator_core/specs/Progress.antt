-- The progress of a coordinator.
use Rattle.std.specs.Prelude.{Bool, true, false}
use Rattle.coordinator_core.specs.declared.job_state.LeafState.{LeafState}
use Rattle.coordinator_core.specs.declared.job_state.LeafState.TheVariants.{Open, GivenTo, Closed}

-- tells whether a leaf is closed
abbrev pub is_closed : LeafState → Bool
is_closed Open = false
is_closed (GivenTo worker) = false
is_closed Closed = true
