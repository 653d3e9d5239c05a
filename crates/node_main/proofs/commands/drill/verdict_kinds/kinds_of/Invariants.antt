use Rattle.std.proofs.Common.{◌≡◌, ◌<◌, ℕ, Some}
use Rattle.honest_cluster.specs.ClosedSchedule.{verdict_at}
use Rattle.node_main.specs.inner.VerdictKinds.{AreKinds}
use Rattle.node_main.proofs.commands.drill.verdict_kinds.kinds_of.Given as goal

-- the kinds of the nodes so far
abbrev pub invariant-loop-node : goal.invariant-loop-node
invariant-loop-node l = AreKinds l.kinds (λ v. (node : ℕ) × (node < l.node) × (verdict_at l.cluster node ≡ Some v))
