use Rattle.leaves.proofs.block_lift.BlockLift.forget.Goals as goal

pub returns-clause-stands : goal.returns-clause-stands
returns-clause-stands c = λ F place cubes bytes handed h. record { from = h.from; holds = h.holds; stands = c.forget.ensures.stands F bytes handed h.stands }
