use Rattle.std.proofs.Common.{◌∙◌, arith}
use Rattle.lidrup.proofs.NameLemmas.{map_here}
use Rattle.lidrup.proofs.names.Names.get.Goals as goal

pub returns : goal.returns
returns c =
    c.find_in_map.ensures ∙ map_here c.args.self.now.maps.items c.index.result.now c.map_index.result c.args.number c.map_index.ensures.is (omega (arith, c.map_index.ensures.below, c.args.self.now.whole)) c.index.ensures
