use Rattle.std.proofs.Common.{arith}
use Rattle.lrat_text.specs.Steps.{step_of}
use Rattle.lrat_text.proofs.LineLemmas.{step_more}
use Rattle.packed_text.proofs.text.PackedText.put.Goals as goal

pub put_within-requires-clause-limits : goal.put_within-requires-clause-limits
put_within-requires-clause-limits c = step_more 2000000 199999999 (omega arith) (step_of c.args.step) c.requires.limits
