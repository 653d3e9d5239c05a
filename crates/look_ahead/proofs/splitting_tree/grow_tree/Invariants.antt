use Rattle.look_ahead.specs.Grown.{IsGrown}
use Rattle.look_ahead.proofs.splitting_tree.grow_tree.Given as goal

abbrev pub invariant-loop-depth : goal.invariant-loop-depth
invariant-loop-depth l = IsGrown l.last l.tree
