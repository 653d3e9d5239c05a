use Rattle.commands.specs.inner.Transfer.{moves_taken}
use Rattle.leaves.specs.BlockLift.{HasTakenBlock}
use Rattle.commands.proofs.lift.BlockLiftFilter.take.Goals as goal

pub returns-clause-taken : goal.returns-clause-taken
returns-clause-taken c = λ F place cubes. moves_taken (HasTakenBlock F place cubes) c.args.self.now c.feed.new.self c.args.piece.now (c.feed.ensures F place cubes)
