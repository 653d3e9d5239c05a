use Rattle.command_line.proofs.RequestLemmas.{only_work}
use Rattle.command_line.proofs.WordLemmas.{if_none, unnamed}
use Rattle.command_line.proofs.commands.work.asked.Goals as goal

pub returns-in_err-port-clause-none : goal.returns-in_err-port-clause-none
returns-in_err-port-clause-none c =
    if_none _ _ (only_work c.args.given.now.rows (λ port input proof options makes. c.in_err-port.ensures.none port makes.1))

pub returns-in_err-input-clause-none : goal.returns-in_err-input-clause-none
returns-in_err-input-clause-none c =
    if_none _ _ (only_work c.args.given.now.rows (λ port input proof options makes. unnamed _ input.now c.in_err-input.ensures makes.2))

pub returns-in_err-options-clause-none : goal.returns-in_err-options-clause-none
returns-in_err-options-clause-none c =
    if_none _ _ (only_work c.args.given.now.rows (λ port input proof options makes. c.in_err-options.ensures.none options makes.4))
