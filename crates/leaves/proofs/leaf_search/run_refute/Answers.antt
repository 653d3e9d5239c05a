use Rattle.std.proofs.Common.{sym, ap}
use Rattle.leaves.proofs.LeafLemmas.{within_at}
use Rattle.leaves.proofs.leaf_search.run_refute.Goals as goal

pub solve-requires-clause-within : goal.solve-requires-clause-within
solve-requires-clause-within c =
    within_at c.args.split.now.tree c.args.leaf c.in-Some.cube.now c.args.split.now.formula.vars c.as_base.result.now.vars (ap (λ f. f.vars) (sym c.as_base.ensures))
    c.args.split.now.within (sym c.in-Some.ensures.found)
