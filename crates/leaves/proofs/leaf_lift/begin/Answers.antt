use Rattle.std.proofs.Common.{[], subst, sym}
use Rattle.proof_lift.specs.Stream.{HasTaken}
use Rattle.leaves.proofs.leaf_lift.begin.Goals as goal

pub returns : goal.returns
returns c = record {
  formula = c.vars.ensures.valid;
  cube = c.requires.cube;
  taken = subst (HasTaken c.args.formula c.args.cube.items c.in_ok-lifter.lifter []) (sym c.new.ensures.items) c.in_ok-lifter.ensures;
}
