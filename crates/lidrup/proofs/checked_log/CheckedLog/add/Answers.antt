use Rattle.lidrup.proofs.NoneLemmas.{stands_on}
use Rattle.lidrup.proofs.checked_log.CheckedLog.add.Goals as goal

pub invariant_of-self : goal.invariant_of-self
invariant_of-self c = record { stands = stands_on c.args.self.now.checker c.check.new.checker c.check.ensures.stands c.args.self.now.stands }

pub invariant_of-self-in-Break-branch-3 : goal.invariant_of-self-in-Break-branch-3
invariant_of-self-in-Break-branch-3 c = record { stands = stands_on c.args.self.now.checker c.check.new.checker c.check.ensures.stands c.args.self.now.stands }

pub invariant_of-self-then-is_empty : goal.invariant_of-self-then-is_empty
invariant_of-self-then-is_empty c = record { stands = stands_on c.args.self.now.checker c.check.new.checker c.check.ensures.stands c.args.self.now.stands }

pub invariant_of-self-else-is_empty : goal.invariant_of-self-else-is_empty
invariant_of-self-else-is_empty c = record { stands = stands_on c.args.self.now.checker c.check.new.checker c.check.ensures.stands c.args.self.now.stands }
