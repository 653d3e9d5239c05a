use Rattle.leaves.specs.BlockLift.{part_of}
use Rattle.leaves.specs.inner.BlockReport.{HasReportedLeaves}
use Rattle.leaves.proofs.block_lift.BlockLift.report.Given as goal

abbrev pub invariant-loop-place : goal.invariant-loop-place
invariant-loop-place l = HasReportedLeaves l.self.log l.self.block.first (part_of l.self.block.tree l.self.block.first l.place) l.text.items l.status
