use Rattle.std.proofs.Common.{◌≡◌, ◌≤◌, ◌-◌, ◌++◌, length, take}
use Rattle.std.specs.List.{flat_map}
use Rattle.lrat_text.specs.inner.LineParts.{literal_text}
use Rattle.lrat_text.proofs.writer.put_literals.Given as goal

abbrev pub invariant-loop-done : goal.invariant-loop-done
invariant-loop-done l = record {
  items : l.out.items ≡ l.fn.out.items ++ flat_map literal_text (take l.done l.literals);
  few : l.done ≤ length l.literals;
}

abbrev pub decreases-loop-done : goal.decreases-loop-done
decreases-loop-done l = length l.literals - l.done
