use Rattle.std.proofs.Common.{arith}
use Rattle.lrat_text.proofs.writer.put_ref.Goals as goal

pub put_ref_within-requires-clause-limits : goal.put_ref_within-requires-clause-limits
put_ref_within-requires-clause-limits c = (2000000, omega arith, c.requires.limits)
