use Rattle.std.proofs.Common.{refl, sym}
use Rattle.leaves.proofs.LeafLemmas.{within_at}
use Rattle.leaves.proofs.LiftLemmas.{cube_over}
use Rattle.leaves.proofs.leaf_lift.Lift.of.Goals as goal

pub begin-requires-clause-cube : goal.begin-requires-clause-cube
begin-requires-clause-cube c =
    let F = c.args.split.formula in
    cube_over F c.in-Some.cube.now c.in_ok-cube-in-Some.cube.items c.in_ok-cube-in-Some.ensures.items
    (within_at c.args.split.tree c.args.leaf c.in-Some.cube.now F.vars F.vars refl c.args.split.within (sym c.in-Some.ensures.found)) c.in-Some.ensures.distinct
