use Rattle.std.proofs.Common.{◌≡◌, ◌≤◌, ◌-◌, ◌++◌, length, take, All}
use Rattle.std.specs.List.{flat_map}
use Rattle.packed_text.specs.Packed.{byte_text}
use Rattle.packed_text.specs.inner.Packed.{IsPair}
use Rattle.packed_text.proofs.text.pack_front.Given as goal

abbrev pub invariant-loop-done : goal.invariant-loop-done
invariant-loop-done l = record {
  pairs : All IsPair l.pairs;
  front : flat_map byte_text l.pairs ≡ flat_map byte_text l.fn.pairs ++ take l.done l.text;
  few : l.done ≤ length l.text;
}

abbrev pub decreases-loop-done : goal.decreases-loop-done
decreases-loop-done l = length l.text - l.done
