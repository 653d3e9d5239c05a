use Rattle.std.proofs.Common.{rules, refl}
use Rattle.icnf.proofs.SpanLemmas.{tree_leaf}
use Rattle.icnf.proofs.tree.Tree.leaf.Goals as goal

pub invariant_of-result : goal.invariant_of-result
invariant_of-result c = tree_leaf _ _ _ c.new.ensures.items (search rules) refl refl
