use Rattle.command_line.proofs.RequestLemmas.{only_cover}
use Rattle.command_line.proofs.WordLemmas.{none_is}
use Rattle.command_line.proofs.commands.cover.asked.Goals as goal

pub returns-in-None-clause-none : goal.returns-in-None-clause-none
returns-in-None-clause-none c =
    only_cover c.args.given.now.rows (λ input cubes receipts quiet makes.
    none_is _ _ c.in-None.is c.in_ok-names.ensures.none receipts.items makes.3)
