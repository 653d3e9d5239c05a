use Rattle.std.proofs.Common.{length}
use Rattle.cubes_to_tree.proofs.node.+grown.Given as goal

abbrev pub decreases-grown : goal.decreases-grown
decreases-grown l = length l.cube.now
