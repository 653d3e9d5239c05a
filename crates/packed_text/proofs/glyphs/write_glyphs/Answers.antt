use Rattle.packed_text.proofs.GlyphLemmas.{are_low, characters}
use Rattle.packed_text.proofs.glyphs.write_glyphs.Goals as goal

pub write_characters-requires : goal.write_characters-requires
write_characters-requires c = rw c.write_halves.ensures (are_low c.args.pairs.now c.requires.pairs)

pub returns : goal.returns
returns c = rw (c.write_characters.ensures, c.write_halves.ensures) (characters c.args.pairs.now c.requires.pairs)
