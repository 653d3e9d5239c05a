use Rattle.std.proofs.Common.{◌-◌}
use Rattle.log_join.proofs.tree.+grow.Given as goal

abbrev pub decreases-grow : goal.decreases-grow
decreases-grow l = 65 - l.depth
