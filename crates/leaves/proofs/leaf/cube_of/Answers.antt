use Rattle.std.proofs.Common.{◌-◌, ◌<◌, length, map, nat_eq, sym, subst, arith}
use Rattle.std.specs.List.{IsDistinct}
use Rattle.dimacs.specs.logic.Literal.{var_of}
use Rattle.icnf.specs.Leaves.{Cube}
use Rattle.leaves.proofs.LeafLemmas.{distinct_at}
use Rattle.leaves.proofs.leaf.cube_of.Goals as goal

pub returns-clause-distinct : goal.returns-clause-distinct
returns-clause-distinct c =
    let below : c.args.leaf - 1 < length c.args.tree.now = omega (arith, c.leaves.ensures.value) in
    subst (λ (q : Cube). IsDistinct nat_eq (map var_of q)) (sym c.cube.ensures.cube) (distinct_at c.args.tree.now (c.args.leaf - 1) c.leaves.ensures.valid below)
