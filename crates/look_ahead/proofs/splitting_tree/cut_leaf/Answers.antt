use Rattle.std.proofs.Common.{subst, sym}
use Rattle.icnf.specs.Leaves.{Cube}
use Rattle.look_ahead.specs.Grown.{IsGrown, MayBeCut}
use Rattle.look_ahead.proofs.splitting_tree.cut_leaf.Goals as goal

pub returns : goal.returns
returns c = subst (IsGrown c.args.last) (sym c.in_ok-split.ensures.ok)
    (IsGrown.cut c.args.leaf c.in-Some.var c.requires.grown c.requires.leaf
    (subst (λ (q : Cube). MayBeCut c.args.last q c.in-Some.var) c.cube-cube.ensures.cube c.in-Some.ensures))
