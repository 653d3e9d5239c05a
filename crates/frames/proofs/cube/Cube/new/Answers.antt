use Rattle.std.proofs.Common.{sym, subst}
use Rattle.frames.specs.Cubes.{IsCube}
use Rattle.frames.proofs.CubeLemmas.{empty_cube}
use Rattle.frames.proofs.cube.Cube.new.Goals as goal

pub invariant_of-result : goal.invariant_of-result
invariant_of-result c = subst IsCube (sym c.new.ensures.items) empty_cube
