use Rattle.std.proofs.Common.{arith}
use Rattle.log_join.proofs.line_writer.put_line.Goals as goal

pub put_ref_within-requires-clause-limits : goal.put_ref_within-requires-clause-limits
put_ref_within-requires-clause-limits c = (199999999, omega arith, c.requires.limits)
