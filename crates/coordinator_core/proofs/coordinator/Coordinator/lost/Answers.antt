use Rattle.coordinator_core.proofs.InvariantLemmas.{lost_leaf, lost_is}
use Rattle.coordinator_core.specs.declared.job_state.LeafState.TheVariants.{Open}
use Rattle.coordinator_core.proofs.FrontLemmas.{rows_state}
use Rattle.coordinator_core.proofs.coordinator.Coordinator.lost.Goals as goal

pub open-requires-clause-inside : goal.open-requires-clause-inside
open-requires-clause-inside c = (lost_leaf _ c.args.self.now c.args.worker c.in-Some.leaf c.self.view_is c.self.invariant.2 c.in-Some.ensures).0

pub open-requires-clause-unclosed : goal.open-requires-clause-unclosed
open-requires-clause-unclosed c = (lost_leaf _ c.args.self.now c.args.worker c.in-Some.leaf c.self.view_is c.self.invariant.2 c.in-Some.ensures).1

pub invariant_of-self : goal.invariant_of-self
invariant_of-self c = (c.self.invariant.0, c.self.invariant.1, lost_is _ c.args.self.now c.args.worker c.number.result c.in-Some.leaf c.open.new.self c.self.view_is c.number.ensures.value c.self.invariant.2 c.in-Some.ensures c.open.ensures, c.self.invariant.3, rows_state _ _ _ c.self.inside.leaves c.open.new.self c.self.inside.front c.in-Some.leaf Open c.open.ensures (lost_leaf _ c.args.self.now c.args.worker c.in-Some.leaf c.self.view_is c.self.invariant.2 c.in-Some.ensures).1 c.self.invariant.4)
