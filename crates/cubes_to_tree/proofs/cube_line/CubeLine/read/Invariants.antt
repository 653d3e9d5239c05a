use Rattle.std.proofs.Common.{◌≡◌, length}
use Rattle.dimacs.specs.text.Words.{words}
use Rattle.cubes_to_tree.specs.CubeList.{read_tokens}
use Rattle.cubes_to_tree.proofs.cube_line.CubeLine.read.Given as goal

abbrev pub invariant-loop-number : goal.invariant-loop-number
invariant-loop-number l = read_tokens l.greatest l.line (words l.rest) l.self ≡ read_tokens l.greatest l.line (words l.fn.text) l.fn.self

abbrev pub decreases-loop-number : goal.decreases-loop-number
decreases-loop-number l = length l.rest
