use Rattle.command_line.proofs.RequestLemmas.{only_drill}
use Rattle.command_line.proofs.WordLemmas.{if_none, unnamed}
use Rattle.command_line.proofs.commands.drill.asked.Goals as goal

pub returns-in_err-input-clause-none : goal.returns-in_err-input-clause-none
returns-in_err-input-clause-none c =
    if_none _ _ (only_drill c.args.given.now.rows (λ input seed turns makes. unnamed _ input.now c.in_err-input.ensures makes.1))

pub returns-in_err-seed-clause-none : goal.returns-in_err-seed-clause-none
returns-in_err-seed-clause-none c =
    if_none _ _ (only_drill c.args.given.now.rows (λ input seed turns makes. c.in_err-seed.ensures.none seed makes.2))

pub returns-in_err-turns-clause-none : goal.returns-in_err-turns-clause-none
returns-in_err-turns-clause-none c =
    if_none _ _ (only_drill c.args.given.now.rows (λ input seed turns makes. c.in_err-turns.ensures.none turns makes.3))
