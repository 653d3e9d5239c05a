-- What holds of a closed cluster at every moment.
use Rattle.std.specs.Prelude.{◌≡◌, ℕ, Some}
use Rattle.lrat_check.specs.Verdicts.{Right}
use Rattle.lrat_check.specs.declared.verdict.Verdict.{Verdict}
use Rattle.coordinator_core.specs.Coordinator.{AreClosed}
use Rattle.coordinator_core.specs.Invariant.{HasJoined}
use Rattle.honest_cluster.specs.ClosedSchedule.{Beginning, ClosedState, verdict_at}
use Rattle.honest_cluster.specs.ClosedLaws.{IsMoment}

-- the state is a moment of some closed schedule
pub record IsReached (s : ClosedState) : Type 0 where
  pub beginning : Beginning
  pub moment : IsMoment beginning s

-- in this state each node's verdict is right for the coordinator's formula
abbrev pub AllHoldRight : ClosedState → Type 0
AllHoldRight s = (node : ℕ) (v : Verdict) → verdict_at s node ≡ Some v → Right s.coordinator.formula v

-- in this state, if every leaf is closed, the coordinator holds the joined proof, or it is stuck because that proof is too long
abbrev pub HasJoinedIfClosed : ClosedState → Type 0
HasJoinedIfClosed s = AreClosed s.coordinator.leaves → HasJoined s.coordinator
