use Rattle.std.proofs.Common.{lit<}
use Rattle.proof_lift.proofs.step_lifter.begin_scratch.Goals as goal

pub returns-clause-clean : goal.returns-clause-clean
returns-clause-clean c = c.in_ok-make_room.ensures.clean 1 (c.in_ok-reserve.ensures.clean 1 (c.new-scratch.ensures 1 (lit< tt)))
