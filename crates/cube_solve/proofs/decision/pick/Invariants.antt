use Rattle.std.proofs.Common.{◌-◌, length}
use Rattle.cube_solve.specs.inner.Steps.{AreHeld}
use Rattle.cube_solve.proofs.decision.pick.Given as goal

abbrev pub invariant-loop-held : goal.invariant-loop-held
invariant-loop-held l = AreHeld l.held l.cube l.trail.entries

abbrev pub decreases-loop-held : goal.decreases-loop-held
decreases-loop-held l = length l.cube - l.held
