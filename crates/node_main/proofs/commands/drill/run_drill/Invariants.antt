use Rattle.std.proofs.Common.{◌≡◌, ◌≤◌, ◌+◌, take, length}
use Rattle.node_main.specs.DrillSchedule.{DrillState, Drills, begun}
use Rattle.node_main.specs.inner.Tallies.{IsTally}
use Rattle.node_main.proofs.commands.drill.run_drill.Given as goal

-- the turns so far were taken, and counted
abbrev pub invariant-loop-turn : goal.invariant-loop-turn
invariant-loop-turn l =
    (d : DrillState) × Drills (begun l.fn.cluster) (take l.turn-index l.words) d × IsTally l.tally d × (d.cluster ≡ l.cluster)
    × (length d.cluster.workers ≡ 3) × (d.next ≤ l.turn-index + 5) × (d.refused ≤ l.turn-index) × (d.disagreements ≤ l.turn-index)
