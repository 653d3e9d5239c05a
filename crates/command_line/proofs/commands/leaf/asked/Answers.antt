use Rattle.command_line.proofs.RequestLemmas.{only_leaf}
use Rattle.command_line.proofs.WordLemmas.{if_none, unnamed}
use Rattle.command_line.proofs.commands.leaf.asked.Goals as goal

pub returns-in_err-input-clause-none : goal.returns-in_err-input-clause-none
returns-in_err-input-clause-none c =
    if_none _ _ (only_leaf c.args.given.now.rows (λ input cubes leaf makes. unnamed _ input.now c.in_err-input.ensures makes.1))

pub returns-in_err-cubes-clause-none : goal.returns-in_err-cubes-clause-none
returns-in_err-cubes-clause-none c =
    if_none _ _ (only_leaf c.args.given.now.rows (λ input cubes leaf makes. unnamed _ cubes.now c.in_err-cubes.ensures makes.2))

pub returns-in_err-leaf-clause-none : goal.returns-in_err-leaf-clause-none
returns-in_err-leaf-clause-none c =
    if_none _ _ (only_leaf c.args.given.now.rows (λ input cubes leaf makes. c.in_err-leaf.ensures.none leaf makes.3))
