use Rattle.std.proofs.Common.{None, arith}
use Rattle.lidrup.proofs.NameLemmas.{maps_changed}
use Rattle.lidrup.proofs.names.Names.remove.Goals as goal

pub returns : goal.returns
returns c =
    maps_changed c.args.self.now.maps.items c.index_mut.result.now c.remove_from_map.new.map c.map_index.result c.args.number None c.map_index.ensures.is (omega (arith, c.map_index.ensures.below, c.args.self.now.whole))
    c.index_mut.ensures.value c.remove_from_map.ensures
