use Rattle.command_line.proofs.RequestLemmas.{only_weave}
use Rattle.command_line.proofs.WordLemmas.{if_none, unnamed}
use Rattle.command_line.proofs.commands.weave.asked.Goals as goal

pub returns-in_err-input-clause-none : goal.returns-in_err-input-clause-none
returns-in_err-input-clause-none c =
    if_none _ _ (only_weave c.args.given.now.rows (λ input folder log cubes binary makes. unnamed _ input.now c.in_err-input.ensures makes.1))

pub returns-in_err-folder-clause-none : goal.returns-in_err-folder-clause-none
returns-in_err-folder-clause-none c =
    if_none _ _ (only_weave c.args.given.now.rows (λ input folder log cubes binary makes. unnamed _ folder.now c.in_err-folder.ensures makes.2))

pub returns-in_err-log-clause-none : goal.returns-in_err-log-clause-none
returns-in_err-log-clause-none c =
    if_none _ _ (only_weave c.args.given.now.rows (λ input folder log cubes binary makes. unnamed _ log.now c.in_err-log.ensures makes.3))
