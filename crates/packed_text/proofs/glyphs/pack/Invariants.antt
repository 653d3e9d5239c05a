use Rattle.std.proofs.Common.{◌≡◌, ◌*◌, ◌<◌, length, take, All}
use Rattle.std.specs.List.{flat_map}
use Rattle.packed_text.specs.Packed.{byte_text}
use Rattle.packed_text.specs.inner.Packed.{IsPair}
use Rattle.packed_text.proofs.glyphs.pack.Given as goal

abbrev pub invariant-loop-i : goal.invariant-loop-i
invariant-loop-i l = record {
  len : length l.pairs ≡ length l.fn.pairs;
  packed : l.most < 14 → All IsPair (take l.i l.pairs) × (flat_map byte_text (take l.i l.pairs) ≡ take (2 * l.i) l.text);
}
