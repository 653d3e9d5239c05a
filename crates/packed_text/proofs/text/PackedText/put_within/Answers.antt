use Rattle.std.proofs.Common.{arith}
use Rattle.packed_text.proofs.text.PackedText.put_within.Goals as goal

pub put_ref_within-requires-clause-limits : goal.put_ref_within-requires-clause-limits
put_ref_within-requires-clause-limits c = (199999999, omega arith, c.requires.limits)
