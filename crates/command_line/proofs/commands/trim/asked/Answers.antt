use Rattle.command_line.proofs.RequestLemmas.{only_trim}
use Rattle.command_line.proofs.WordLemmas.{if_none, unnamed}
use Rattle.command_line.proofs.commands.trim.asked.Goals as goal

pub returns-in_err-input-clause-none : goal.returns-in_err-input-clause-none
returns-in_err-input-clause-none c =
    if_none _ _ (only_trim c.args.given.now.rows (λ input proof out binary makes. unnamed _ input.now c.in_err-input.ensures makes.1))

pub returns-in_err-proof-clause-none : goal.returns-in_err-proof-clause-none
returns-in_err-proof-clause-none c =
    if_none _ _ (only_trim c.args.given.now.rows (λ input proof out binary makes. unnamed _ proof.now c.in_err-proof.ensures makes.2))

pub returns-in_err-out-clause-none : goal.returns-in_err-out-clause-none
returns-in_err-out-clause-none c =
    if_none _ _ (only_trim c.args.given.now.rows (λ input proof out binary makes. unnamed _ out.now c.in_err-out.ensures makes.3))
