use Rattle.std.proofs.Common.{arith}
use Rattle.std.proofs.lemmas.List.Edits.{map_over_more}
use Rattle.std.proofs.lemmas.List.{get_or_default}
use Rattle.packed_text.specs.inner.Glyphs.{character}
use Rattle.packed_text.proofs.glyphs.write_characters.Goals as goal

pub loop-i-preserved : goal.loop-i-preserved
loop-i-preserved c =
    rw c.glyph.ensures (map_over_more character c.args.text.now c.loop-i.text c.loop-i.i _ (omega arith) c.loop-i.invariant (get_or_default c.loop-i.text c.loop-i.i 0 _ (omega arith)))
