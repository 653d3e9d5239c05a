use Rattle.std.proofs.Common.{◌≡◌, ◌≤◌, ◌-◌, ◌++◌, take, drop}
use Rattle.std.specs.List.{flat_map}
use Rattle.packed_text.specs.Packed.{byte_text}
use Rattle.packed_text.proofs.text.unpack_part.Given as goal

abbrev pub invariant-loop-done : goal.invariant-loop-done
invariant-loop-done l = record {
  items : l.out.items ≡ l.fn.out.items ++ flat_map byte_text (take l.done (drop l.from l.pairs));
  few : l.done ≤ l.count;
}

abbrev pub decreases-loop-done : goal.decreases-loop-done
decreases-loop-done l = l.count - l.done
