use Rattle.std.proofs.Common.{◌≡◌, ◌≤◌, ◌-◌, ◌+◌, ◌*◌, length, drop}
use Rattle.std.specs.List.{flat_map}
use Rattle.lrat_text.specs.inner.LineParts.{number_text}
use Rattle.lrat_text.proofs.token_block.write_numbers.Given as goal

abbrev pub invariant-loop-i : goal.invariant-loop-i
invariant-loop-i l = record {
  room : 352 ≤ l.start + 22 * l.i;
  top : l.start ≤ 352;
  text : drop l.start l.room ≡ flat_map number_text (drop (length l.numbers - l.i) l.numbers);
}
