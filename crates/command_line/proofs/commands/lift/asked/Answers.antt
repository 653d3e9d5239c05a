use Rattle.command_line.proofs.RequestLemmas.{only_lift}
use Rattle.command_line.proofs.WordLemmas.{if_none, unnamed}
use Rattle.command_line.proofs.commands.lift.asked.Goals as goal

pub returns-in_err-input-clause-none : goal.returns-in_err-input-clause-none
returns-in_err-input-clause-none c =
    if_none _ _ (only_lift c.args.given.now.rows (λ input cubes leaf to lidrup drat proof fragment binary makes. unnamed _ input.now c.in_err-input.ensures makes.1))

pub returns-in_err-cubes-clause-none : goal.returns-in_err-cubes-clause-none
returns-in_err-cubes-clause-none c =
    if_none _ _ (only_lift c.args.given.now.rows (λ input cubes leaf to lidrup drat proof fragment binary makes. unnamed _ cubes.now c.in_err-cubes.ensures makes.2))

pub returns-in_err-leaf-clause-none : goal.returns-in_err-leaf-clause-none
returns-in_err-leaf-clause-none c =
    if_none _ _ (only_lift c.args.given.now.rows (λ input cubes leaf to lidrup drat proof fragment binary makes. c.in_err-leaf.ensures.none leaf makes.3))

pub returns-in_err-proof-clause-none : goal.returns-in_err-proof-clause-none
returns-in_err-proof-clause-none c =
    if_none _ _ (only_lift c.args.given.now.rows (λ input cubes leaf to lidrup drat proof fragment binary makes. unnamed _ proof.now c.in_err-proof.ensures makes.7))

pub returns-in_err-fragment-clause-none : goal.returns-in_err-fragment-clause-none
returns-in_err-fragment-clause-none c =
    if_none _ _ (only_lift c.args.given.now.rows (λ input cubes leaf to lidrup drat proof fragment binary makes. unnamed _ fragment.now c.in_err-fragment.ensures makes.8))

pub returns-in_err-to-clause-none : goal.returns-in_err-to-clause-none
returns-in_err-to-clause-none c =
    if_none _ _ (only_lift c.args.given.now.rows (λ input cubes leaf to lidrup drat proof fragment binary makes. c.in_err-to.ensures.none to makes.4))
