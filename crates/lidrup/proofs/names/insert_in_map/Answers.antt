use Rattle.std.proofs.Common.{Some}
use Rattle.lidrup.proofs.NameLemmas.{map_changed}
use Rattle.lidrup.proofs.names.insert_in_map.Goals as goal

pub returns-clause-named : goal.returns-clause-named
returns-clause-named c = map_changed c.args.map.now c.insert.new.self c.args.number (Some c.args.own) c.in_ok-insert.ensures.updates.0
