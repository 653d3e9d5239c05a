use Rattle.look_ahead.specs.Grown.{IsGrown}
use Rattle.look_ahead.proofs.splitting_tree.cut_level.Given as goal

abbrev pub invariant-loop : goal.invariant-loop
invariant-loop l = IsGrown l.last l.tree
