use Rattle.std.proofs.Common.{◌≡◌, ◌*◌, length, take}
use Rattle.std.specs.List.{flat_map}
use Rattle.packed_text.specs.inner.Glyphs.{halves}
use Rattle.packed_text.proofs.glyphs.write_halves.Given as goal

abbrev pub invariant-loop-i : goal.invariant-loop-i
invariant-loop-i l = record {
  len : length l.text ≡ 2 * length l.pairs;
  items : take (2 * l.i) l.text ≡ flat_map halves (take l.i l.pairs);
}
