use Rattle.std.proofs.Common.{◌≡◌, ◌+◌, ◌<◌, ◌^◌, List}
use Rattle.dimacs.specs.inner.Words.{lines_left, left_len}
use Rattle.icnf.specs.Leaves.{Cube}
use Rattle.cubes_to_tree.specs.CubeList.{listed, read_lines}
use Rattle.cubes_to_tree.specs.inner.Nodes.{IsTreeOf}
use Rattle.cubes_to_tree.proofs.cube_reader.read.Given as goal

abbrev pub invariant-loop-rest : goal.invariant-loop-rest
invariant-loop-rest l = record {
  few : l.lines + left_len l.rest < 2 ^ 64;
  cubes : List Cube;
  holds : IsTreeOf l.greatest cubes l.root;
  so_far : read_lines l.greatest l.lines (lines_left l.rest) cubes ≡ listed l.greatest l.fn.text;
}

abbrev pub decreases-loop-rest : goal.decreases-loop-rest
decreases-loop-rest l = left_len l.rest
