use Rattle.command_line.proofs.RequestLemmas.{only_decide}
use Rattle.command_line.proofs.WordLemmas.{if_none, unnamed}
use Rattle.command_line.proofs.commands.decide.asked.Goals as goal

pub returns-in_err-input-clause-none : goal.returns-in_err-input-clause-none
returns-in_err-input-clause-none c =
    if_none _ _ (only_decide c.args.given.now.rows (λ input proof limit progress stats printing binary makes. unnamed _ input.now c.in_err-input.ensures makes.1))

pub returns-in_err-limit-clause-none : goal.returns-in_err-limit-clause-none
returns-in_err-limit-clause-none c =
    if_none _ _ (only_decide c.args.given.now.rows (λ input proof limit progress stats printing binary makes. c.in_err-limit.ensures.none limit makes.2))
