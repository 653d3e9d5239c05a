use Rattle.command_line.proofs.RequestLemmas.{only_cover}
use Rattle.command_line.proofs.WordLemmas.{if_none, unnamed}
use Rattle.command_line.proofs.commands.cover.covering.Goals as goal

pub returns-in_err-input-clause-none : goal.returns-in_err-input-clause-none
returns-in_err-input-clause-none c =
    if_none _ _ (only_cover c.args.given.now.rows (λ input cubes receipts quiet makes. unnamed _ input.now c.in_err-input.ensures makes.1))

pub returns-in_err-cubes-clause-none : goal.returns-in_err-cubes-clause-none
returns-in_err-cubes-clause-none c =
    if_none _ _ (only_cover c.args.given.now.rows (λ input cubes receipts quiet makes. unnamed _ cubes.now c.in_err-cubes.ensures makes.2))
