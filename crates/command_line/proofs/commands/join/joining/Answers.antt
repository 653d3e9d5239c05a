use Rattle.command_line.proofs.RequestLemmas.{only_join}
use Rattle.command_line.proofs.WordLemmas.{if_none, unnamed}
use Rattle.command_line.proofs.commands.join.joining.Goals as goal

pub returns-in_err-input-clause-none : goal.returns-in_err-input-clause-none
returns-in_err-input-clause-none c =
    if_none _ _ (only_join c.args.given.now.rows (λ input cubes proof fragments printing binary makes. unnamed _ input.now c.in_err-input.ensures makes.1))

pub returns-in_err-cubes-clause-none : goal.returns-in_err-cubes-clause-none
returns-in_err-cubes-clause-none c =
    if_none _ _ (only_join c.args.given.now.rows (λ input cubes proof fragments printing binary makes. unnamed _ cubes.now c.in_err-cubes.ensures makes.2))
