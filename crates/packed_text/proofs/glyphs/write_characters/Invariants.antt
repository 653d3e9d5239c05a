use Rattle.std.proofs.Common.{◌≡◌, ◌++◌, map, take, drop}
use Rattle.packed_text.specs.inner.Glyphs.{character}
use Rattle.packed_text.proofs.glyphs.write_characters.Given as goal

abbrev pub invariant-loop-i : goal.invariant-loop-i
invariant-loop-i l = l.text ≡ map character (take l.i l.fn.text) ++ drop l.i l.fn.text
