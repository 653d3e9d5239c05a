use Rattle.std.proofs.Common.{◌∙◌}
use Rattle.coordinator_core.proofs.JobEvidenceLemmas.{closes_here, closes_there, unrefused}
use Rattle.coordinator_core.proofs.InvariantLemmas.{task_leaf}
use Rattle.coordinator_core.proofs.coordinator.Coordinator.closes_leaf.Goals as goal

pub cube-requires : goal.cube-requires
cube-requires c = task_leaf _ c.args.self.now c.args.worker c.args.leaf c.self.view_is c.self.invariant.2 c.requires

pub returns-in-Ok : goal.returns-in-Ok
returns-in-Ok c = closes_here _ c.args.self.now c.base_or-base.result.now c.cube.result.now c.args.leaf c.args.text.now c.self.view_is (c.base_or-base.ensures ∙ c.self.invariant.1) c.cube.ensures.cube c.in-Ok.ensures.closes

pub returns-in-Err-2 : goal.returns-in-Err-2
returns-in-Err-2 c = λ closes.
    unrefused c.check_packed_fragment.result c.in-Err.fault c.is_no_memory.result (c.check_packed_fragment.ensures.complete (closes_there _ c.args.self.now c.base_or-base.result.now c.cube.result.now c.args.leaf c.args.text.now c.self.view_is (c.base_or-base.ensures ∙ c.self.invariant.1) c.cube.ensures.cube closes)) c.in-Err.is c.is_no_memory.ensures c.if-is_no_memory.false
