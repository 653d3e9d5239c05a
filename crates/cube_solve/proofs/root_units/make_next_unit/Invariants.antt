use Rattle.std.proofs.Common.{vec_len}
use Rattle.cube_solve.proofs.root_units.make_next_unit.Given as goal

abbrev pub decreases-loop-literal : goal.decreases-loop-literal
decreases-loop-literal l = vec_len l.wanted
