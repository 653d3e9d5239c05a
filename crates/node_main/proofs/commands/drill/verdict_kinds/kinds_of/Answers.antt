use Rattle.std.proofs.Common.{◌≡◌, ◌<◌, ℕ, Some, arith, subst}
use Rattle.honest_cluster.specs.ClosedSchedule.{verdict_at}
use Rattle.node_main.specs.inner.VerdictKinds.{AreKinds}
use Rattle.node_main.proofs.VerdictKindLemmas.{kinds_all, kinds_more}
use Rattle.node_main.proofs.commands.drill.verdict_kinds.kinds_of.Goals as goal

pub loop-node-preserved : goal.loop-node-preserved
loop-node-preserved c =
    rw (c.and-kinds.ensures) (kinds_more c.args.cluster.now c.loop-node.node c.loop-node.kinds c.kind_at.result c.loop-node.invariant c.kind_at.ensures)

pub returns : goal.returns
returns c =
    let all : c.loop-node.node ≡ 4 = omega (arith, c.loop-node-test.false, c.loop-node.auto.node-end) in
    kinds_all c.args.cluster.now c.loop-node.kinds c.requires
    (subst (λ (n : ℕ). AreKinds c.loop-node.kinds (λ v. (node : ℕ) × (node < n) × (verdict_at c.args.cluster.now node ≡ Some v))) all c.loop-node.invariant)
