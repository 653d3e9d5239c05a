use Rattle.commands.specs.inner.Transfer.{moves_out}
use Rattle.leaves.specs.BlockLift.{HasTakenBlock}
use Rattle.commands.proofs.lift.BlockLiftFilter.hand_out.Goals as goal

pub returns : goal.returns
returns c = λ F place cubes.
    moves_out (HasTakenBlock F place cubes) c.args.self.now c.forget.new.self c.args.self.now.log.lines.out.items (c.forget.ensures.stands F place cubes)
