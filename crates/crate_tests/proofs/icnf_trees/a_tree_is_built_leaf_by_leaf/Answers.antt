use Rattle.std.proofs.Common.{rules, ◌≡◌, [], ◌∷◌}
use Rattle.icnf.specs.Leaves.{leaf}
use Rattle.crate_tests.proofs.icnf_trees.a_tree_is_built_leaf_by_leaf.Goals as goal

pub finish-tree-requires : goal.finish-tree-requires
finish-tree-requires g c =
    let one : c.push.new.self ≡ [] ∷ [] = search rules in
    rw one leaf
