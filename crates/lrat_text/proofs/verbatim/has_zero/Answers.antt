use Rattle.std.proofs.Common.{arith}
use Rattle.lrat_text.proofs.VerbatimLemmas.{zero_more}
use Rattle.lrat_text.proofs.verbatim.has_zero.Goals as goal

pub loop-k-preserved : goal.loop-k-preserved
loop-k-preserved c = λ h. zero_more c.args.line.now c.args.from c.loop-k.k c.loop-k.found (omega arith) c.loop-k.invariant h
