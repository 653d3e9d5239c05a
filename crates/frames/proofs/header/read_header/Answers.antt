use Rattle.std.proofs.Common.{arith}
use Rattle.frames.proofs.Headers.{first_is_mark}
use Rattle.frames.proofs.header.read_header.Goals as goal

pub returns-in-67 : goal.returns-in-67
returns-in-67 c = grind (arith, first_is_mark)
