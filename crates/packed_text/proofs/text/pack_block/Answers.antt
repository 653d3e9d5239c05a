use Rattle.packed_text.proofs.PackedLemmas.{pairs_either_way}
use Rattle.packed_text.proofs.text.pack_block.Goals as goal

pub returns-then-pack-clause-pairs : goal.returns-then-pack-clause-pairs
returns-then-pack-clause-pairs c =
    pairs_either_way c.push.result c.args.pairs.now c.push.new.self c.pack.new.pairs c.requires.pairs (c.pack.ensures.pairs c.if-pack.true) c.push.ensures
