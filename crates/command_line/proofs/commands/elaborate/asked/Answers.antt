use Rattle.command_line.proofs.RequestLemmas.{only_elaborate}
use Rattle.command_line.proofs.WordLemmas.{if_none, unnamed}
use Rattle.command_line.proofs.commands.elaborate.asked.Goals as goal

pub returns-in_err-input-clause-none : goal.returns-in_err-input-clause-none
returns-in_err-input-clause-none c =
    if_none _ _ (only_elaborate c.args.given.now.rows (λ input drat lrat progress binary makes. unnamed _ input.now c.in_err-input.ensures makes.1))

pub returns-in_err-drat-clause-none : goal.returns-in_err-drat-clause-none
returns-in_err-drat-clause-none c =
    if_none _ _ (only_elaborate c.args.given.now.rows (λ input drat lrat progress binary makes. unnamed _ drat.now c.in_err-drat.ensures makes.2))

pub returns-in_err-lrat-clause-none : goal.returns-in_err-lrat-clause-none
returns-in_err-lrat-clause-none c =
    if_none _ _ (only_elaborate c.args.given.now.rows (λ input drat lrat progress binary makes. unnamed _ lrat.now c.in_err-lrat.ensures makes.3))
