-- The tally: what the code keeps of a drill from turn to turn.
use Rattle.std.specs.Prelude.{◌≡◌, ℕ, ◌+◌, ◌<◌, ◌^◌, Bool, if◌then◌else◌}
use Rattle.node_main.specs.DrillSchedule.{DrillState, HasHeld}
use Rattle.node_main.specs.inner.VerdictKinds.{AreKinds}
use Rattle.node_main.specs.declared.commands.drill.tally.Tally.{Tally}

-- `counted old is_so`: the count `old`, one higher if `is_so` is true
abbrev pub counted : ℕ → Bool → ℕ
counted old is_so = if is_so then old + 1 else old

-- the tally has the counts of this drill, and the kinds of the verdicts that were held
pub record IsTally (tally : Tally) (drill : DrillState) : Type 0 where
  pub next : tally.next ≡ drill.next
  pub held : AreKinds tally.held (HasHeld drill.moments)
  pub refused : tally.refused ≡ drill.refused
  pub disagreements : tally.disagreements ≡ drill.disagreements

-- each count of the tally can grow by one in 64 bits
pub record HasRoom (tally : Tally) : Type 0 where
  pub next : tally.next + 1 < 2 ^ 64
  pub refused : tally.refused + 1 < 2 ^ 64
  pub disagreements : tally.disagreements + 1 < 2 ^ 64
