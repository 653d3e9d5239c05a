use Rattle.std.proofs.Common.{ℕ, ◌<◌, get_or}
use Rattle.cluster.specs.declared.node.Node.{Node}
use Rattle.cluster.specs.Nodes.{IsSound}
use Rattle.cluster.proofs.open.OpenCluster.new.Given as goal

-- each node so far is sound
abbrev pub invariant-loop-node : goal.invariant-loop-node
invariant-loop-node l = (k : ℕ) (d : Node) → k < l.node-index → IsSound (get_or l.node-items k d)
