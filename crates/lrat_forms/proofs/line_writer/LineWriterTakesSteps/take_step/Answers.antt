use Rattle.std.proofs.Common.{arith}
use Rattle.lrat_forms.proofs.line_writer.LineWriterTakesSteps.take_step.Goals as goal

pub put_ref_within-requires-clause-limits : goal.put_ref_within-requires-clause-limits
put_ref_within-requires-clause-limits c = (199999999, omega arith, c.is_within.ensures c.if-not-is_within.false)
