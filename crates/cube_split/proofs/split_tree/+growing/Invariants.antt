use Rattle.std.proofs.Common.{◌+◌, ◌*◌}
use Rattle.cube_split.proofs.split_tree.+growing.Given as goal

abbrev pub decreases-append_below : goal.decreases-append_below
decreases-append_below l = 2 * l.levels

abbrev pub decreases-append_branch : goal.decreases-append_branch
decreases-append_branch l = 2 * l.levels + 1
