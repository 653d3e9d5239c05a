use Rattle.icnf.proofs.WritingLemmas.{writing_spells}
use Rattle.icnf.proofs.writer.write.Goals as goal

pub returns-then-is_err-clause-fits : goal.returns-then-is_err-clause-fits
returns-then-is_err-clause-fits c = λ L fits. writing_spells L c.args.formula.now c.args.tree.now c.vars.ensures.valid fits c.leaves.ensures.valid c.requires

pub returns-else-is_err-clause-fits : goal.returns-else-is_err-clause-fits
returns-else-is_err-clause-fits c = λ L fits. writing_spells L c.args.formula.now c.args.tree.now c.vars.ensures.valid fits c.leaves.ensures.valid c.requires
