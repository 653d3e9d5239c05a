use Rattle.std.proofs.Common.{sym, refl}
use Rattle.leaves.proofs.LeafLemmas.{within_at}
use Rattle.leaves.proofs.leaf.leaf_formula.Goals as goal

pub formula_under-requires-clause-within : goal.formula_under-requires-clause-within
formula_under-requires-clause-within c =
    within_at c.args.split.now.tree c.args.leaf c.in-Some.cube.now c.args.split.now.formula.vars c.args.split.now.formula.vars refl c.args.split.now.within
    (sym c.in-Some.ensures.found)
