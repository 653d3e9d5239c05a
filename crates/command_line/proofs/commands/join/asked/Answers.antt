use Rattle.command_line.proofs.RequestLemmas.{joins_some, only_join}
use Rattle.command_line.proofs.WordLemmas.{none_is}
use Rattle.command_line.proofs.commands.join.asked.Goals as goal

pub returns-in-None-clause-none : goal.returns-in-None-clause-none
returns-in-None-clause-none c =
    only_join c.args.given.now.rows (λ input cubes proof fragments printing binary makes.
    joins_some c.args.given.now.rows proof fragments.items (none_is _ _ c.in-None.is c.in_ok-names.ensures.none) makes.3)
