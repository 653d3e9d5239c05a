use Rattle.lidrup.proofs.NoneLemmas.{stands_on}
use Rattle.lidrup.proofs.checked_log.CheckedLog.delete.Goals as goal

pub invariant_of-self : goal.invariant_of-self
invariant_of-self c = record { stands = stands_on c.args.self.now.checker c.check.new.checker c.check.ensures.stands c.args.self.now.stands }
