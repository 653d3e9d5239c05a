use Rattle.std.proofs.Common.{arith}
use Rattle.frames.proofs.Headers.{second_is_mark}
use Rattle.frames.proofs.header.after_mark.Goals as goal

pub returns-in-67 : goal.returns-in-67
returns-in-67 c = grind (arith, second_is_mark)
