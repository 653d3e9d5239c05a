use Rattle.std.proofs.Common.{◌≡◌, ◌≤◌, ◌-◌, ◌++◌, length, take}
use Rattle.std.specs.List.{flat_map}
use Rattle.lrat_text.specs.inner.LineParts.{number_text}
use Rattle.lrat_text.proofs.writer.put_numbers.Given as goal

abbrev pub invariant-loop-done : goal.invariant-loop-done
invariant-loop-done l = record {
  items : l.out.items ≡ l.fn.out.items ++ flat_map number_text (take l.done l.numbers);
  few : l.done ≤ length l.numbers;
}

abbrev pub decreases-loop-done : goal.decreases-loop-done
decreases-loop-done l = length l.numbers - l.done
