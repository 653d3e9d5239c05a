use Rattle.std.proofs.Common.{◌-◌}
use Rattle.coordinator_core.proofs.InvariantLemmas.{lost_leaf, task_leaf}
use Rattle.coordinator_core.proofs.SplitStates.{IsTorn, jobs_low, leaf_free, torn_keeps}
use Rattle.coordinator_core.proofs.FrontLemmas.{rows_split}
use Rattle.coordinator_core.proofs.coordinator.Coordinator.split.Goals as goal

pub split-requires-clause-inside : goal.split-requires-clause-inside
split-requires-clause-inside c = (lost_leaf _ c.args.self.now c.args.worker c.args.leaf c.self.view_is c.self.invariant.2 c.requires.job).0

pub split-requires-clause-unclosed : goal.split-requires-clause-unclosed
split-requires-clause-unclosed c = (lost_leaf _ c.args.self.now c.args.worker c.args.leaf c.self.view_is c.self.invariant.2 c.requires.job).1

pub split-requires-clause-leaf : goal.split-requires-clause-leaf
split-requires-clause-leaf c = task_leaf _ c.args.self.now c.args.worker c.args.leaf c.self.view_is c.self.invariant.2 c.requires.job

pub split-requires-clause-free : goal.split-requires-clause-free
split-requires-clause-free c = leaf_free _ c.args.self.now c.args.leaf c.args.var c.self.view_is c.requires.can

pub shift_jobs-requires : goal.shift_jobs-requires
shift_jobs-requires c = jobs_low _ (c.number.result - 1) c.self.invariant.2

pub invariant_of-self-2 : goal.invariant_of-self-2
invariant_of-self-2 c =
    let t : IsTorn _ c.number.result c.args.leaf c.args.var c.split.new.tree c.split.new.self c.shift_jobs.new.jobs.items = record { tree_is = c.in_ok-split.ensures.tree; rows_are = c.in_ok-split.ensures.rows; jobs_are = c.shift_jobs.ensures } in
    (c.self.invariant.0, c.self.invariant.1, torn_keeps _ c.args.self.now c.args.worker c.number.result c.args.leaf c.args.var _ c.split.new.self _ c.self.view_is c.number.ensures.value c.self.invariant.2 c.requires.job c.requires.can t, c.self.invariant.3, rows_split _ _ c.self.inside.tree c.self.inside.leaves c.split.new.self c.self.inside.front c.args.leaf c.args.var c.split.new.tree c.in_ok-split.ensures.rows c.in_ok-split.ensures.tree (lost_leaf _ c.args.self.now c.args.worker c.args.leaf c.self.view_is c.self.invariant.2 c.requires.job).1 c.self.invariant.4)
