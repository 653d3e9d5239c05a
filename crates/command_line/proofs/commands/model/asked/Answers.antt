use Rattle.command_line.proofs.RequestLemmas.{only_model}
use Rattle.command_line.proofs.WordLemmas.{if_none, unnamed}
use Rattle.command_line.proofs.commands.model.asked.Goals as goal

pub returns-in_err-input-clause-none : goal.returns-in_err-input-clause-none
returns-in_err-input-clause-none c =
    if_none _ _ (only_model c.args.given.now.rows (λ input output makes. unnamed _ input.now c.in_err-input.ensures makes.1))

pub returns-in_err-output-clause-none : goal.returns-in_err-output-clause-none
returns-in_err-output-clause-none c =
    if_none _ _ (only_model c.args.given.now.rows (λ input output makes. unnamed _ output.now c.in_err-output.ensures makes.2))
