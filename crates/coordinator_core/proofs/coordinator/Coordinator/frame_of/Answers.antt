use Rattle.std.proofs.Common.{refl, arith}
use Rattle.coordinator_core.proofs.PollLemmas.{leaf_there, few_bytes}
use Rattle.coordinator_core.proofs.coordinator.Coordinator.frame_of.Goals as goal

pub overflow_cast-result : goal.overflow_cast-result
overflow_cast-result c =
    let few = few_bytes _ c.args.self.now c.args.worker c.args.job.now c.in-Some.fixed c.self.view_is c.self.invariant.2 c.requires c.in-Some.is in
    omega (arith, few, c.length.ensures, c.len.ensures)

pub task-requires : goal.task-requires
task-requires c = leaf_there _ c.args.self.now c.args.worker c.args.job.now.leaf c.self.view_is c.self.invariant.2 (c.args.job.now, c.requires, refl)
