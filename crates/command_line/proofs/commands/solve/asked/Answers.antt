use Rattle.command_line.proofs.RequestLemmas.{only_solve}
use Rattle.command_line.proofs.WordLemmas.{if_none, unnamed}
use Rattle.command_line.proofs.commands.solve.asked.Goals as goal

pub returns-in_err-input-clause-none : goal.returns-in_err-input-clause-none
returns-in_err-input-clause-none c =
    if_none _ _ (only_solve c.args.given.now.rows (λ input cubes proof options makes. unnamed _ input.now c.in_err-input.ensures makes.1))

pub returns-in_err-options-clause-none : goal.returns-in_err-options-clause-none
returns-in_err-options-clause-none c =
    if_none _ _ (only_solve c.args.given.now.rows (λ input cubes proof options makes. c.in_err-options.ensures.none options makes.4))
