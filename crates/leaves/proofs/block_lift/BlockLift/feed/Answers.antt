use Rattle.leaves.proofs.block_lift.BlockLift.feed.Goals as goal

pub returns : goal.returns
returns c = λ F place cubes bytes handed h. record { from = h.from; holds = h.holds; stands = c.feed.ensures F bytes handed h.stands }
