use Rattle.command_line.proofs.RequestLemmas.{only_receipt}
use Rattle.command_line.proofs.WordLemmas.{if_none, unnamed}
use Rattle.command_line.proofs.commands.receipt.asked.Goals as goal

pub returns-in_err-input-clause-none : goal.returns-in_err-input-clause-none
returns-in_err-input-clause-none c =
    if_none _ _ (only_receipt c.args.given.now.rows (λ input cubes log receipt makes. unnamed _ input.now c.in_err-input.ensures makes.1))

pub returns-in_err-cubes-clause-none : goal.returns-in_err-cubes-clause-none
returns-in_err-cubes-clause-none c =
    if_none _ _ (only_receipt c.args.given.now.rows (λ input cubes log receipt makes. unnamed _ cubes.now c.in_err-cubes.ensures makes.2))

pub returns-in_err-log-clause-none : goal.returns-in_err-log-clause-none
returns-in_err-log-clause-none c =
    if_none _ _ (only_receipt c.args.given.now.rows (λ input cubes log receipt makes. unnamed _ log.now c.in_err-log.ensures makes.3))

pub returns-in_err-receipt-clause-none : goal.returns-in_err-receipt-clause-none
returns-in_err-receipt-clause-none c =
    if_none _ _ (only_receipt c.args.given.now.rows (λ input cubes log receipt makes. unnamed _ receipt.now c.in_err-receipt.ensures makes.4))
