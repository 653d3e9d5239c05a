use Rattle.icnf.proofs.LeavesLemmas.{split_keeps}
use Rattle.icnf.proofs.tree.Tree.split.Goals as goal

pub invariant_of-self : goal.invariant_of-self
invariant_of-self c = (
  c.branch-self.ensures.lie,
  split_keeps c.branch-self.result _ c.args.self.now _ c.args.i c.args.var c.self.view_is c.self.invariant.1 c.requires.leaf c.requires.free c.branch-self.ensures.ok c.branch-self.ensures.err,
)
