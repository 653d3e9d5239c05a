use Rattle.command_line.proofs.RequestLemmas.{only_refute}
use Rattle.command_line.proofs.WordLemmas.{if_none, unnamed}
use Rattle.command_line.proofs.commands.refute.asked.Goals as goal

pub returns-in_err-input-clause-none : goal.returns-in_err-input-clause-none
returns-in_err-input-clause-none c =
    if_none _ _ (only_refute c.args.given.now.rows (λ input cubes leaf to grow limit fragment printing binary makes. unnamed _ input.now c.in_err-input.ensures makes.1))

pub returns-in_err-cubes-clause-none : goal.returns-in_err-cubes-clause-none
returns-in_err-cubes-clause-none c =
    if_none _ _ (only_refute c.args.given.now.rows (λ input cubes leaf to grow limit fragment printing binary makes. unnamed _ cubes.now c.in_err-cubes.ensures makes.2))

pub returns-in_err-leaf-clause-none : goal.returns-in_err-leaf-clause-none
returns-in_err-leaf-clause-none c =
    if_none _ _ (only_refute c.args.given.now.rows (λ input cubes leaf to grow limit fragment printing binary makes. c.in_err-leaf.ensures.none leaf makes.3))

pub returns-in_err-limit-clause-none : goal.returns-in_err-limit-clause-none
returns-in_err-limit-clause-none c =
    if_none _ _ (only_refute c.args.given.now.rows (λ input cubes leaf to grow limit fragment printing binary makes. c.in_err-limit.ensures.none limit makes.6))

pub returns-in_err-to-clause-none : goal.returns-in_err-to-clause-none
returns-in_err-to-clause-none c =
    if_none _ _ (only_refute c.args.given.now.rows (λ input cubes leaf to grow limit fragment printing binary makes. c.in_err-to.ensures.none to makes.4))
