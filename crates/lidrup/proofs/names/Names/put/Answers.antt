use Rattle.std.proofs.Common.{Some, arith}
use Rattle.std.proofs.lemmas.Result.{on_ok_weaker}
use Rattle.lidrup.proofs.NameLemmas.{maps_changed}
use Rattle.lidrup.proofs.names.Names.put.Goals as goal

pub returns-clause-named : goal.returns-clause-named
returns-clause-named c =
    on_ok_weaker c.insert_in_map.result
    (λ changes. maps_changed c.args.self.now.maps.items c.index_mut.result.now c.insert_in_map.new.map c.map_index.result c.args.number (Some c.args.own.number) c.map_index.ensures.is
    (omega (arith, c.map_index.ensures.below, c.args.self.now.whole)) c.index_mut.ensures.value changes)
    c.insert_in_map.ensures.named
