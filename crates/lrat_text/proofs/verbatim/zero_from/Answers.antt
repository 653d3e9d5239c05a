use Rattle.std.proofs.Common.{◌-◌, ◌∙◌, arith}
use Rattle.lrat_text.proofs.VerbatimLemmas.{zero_none}
use Rattle.lrat_text.proofs.verbatim.zero_from.Goals as goal

pub returns-clause-value : goal.returns-clause-value
returns-clause-value c =
    zero_none c.args.line.now (c.loop-i.i - 1) c.loop-i.invariant.inside (omega (arith, c.loop-i-test.false, c.loop-i.invariant.some)) ∙ c.loop-i.invariant.left
