use Rattle.command_line.proofs.RequestLemmas.{only_check}
use Rattle.command_line.proofs.WordLemmas.{if_none, unnamed}
use Rattle.command_line.proofs.commands.check.asked.Goals as goal

pub returns-in_err-input-clause-none : goal.returns-in_err-input-clause-none
returns-in_err-input-clause-none c =
    if_none _ _ (only_check c.args.given.now.rows (λ input proof session drat progress makes. unnamed _ input.now c.in_err-input.ensures makes.1))

pub returns-in_err-proof-clause-none : goal.returns-in_err-proof-clause-none
returns-in_err-proof-clause-none c =
    if_none _ _ (only_check c.args.given.now.rows (λ input proof session drat progress makes. unnamed _ proof.now c.in_err-proof.ensures makes.2))
