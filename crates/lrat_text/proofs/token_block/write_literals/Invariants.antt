use Rattle.std.proofs.Common.{◌≡◌, ◌≤◌, ◌-◌, ◌+◌, ◌*◌, length, drop}
use Rattle.std.specs.List.{flat_map}
use Rattle.lrat_text.specs.inner.LineParts.{literal_text}
use Rattle.lrat_text.proofs.token_block.write_literals.Given as goal

abbrev pub invariant-loop-i : goal.invariant-loop-i
invariant-loop-i l = record {
  room : 352 ≤ l.start + 22 * l.i;
  top : l.start ≤ 352;
  text : drop l.start l.room ≡ flat_map literal_text (drop (length l.literals - l.i) l.literals);
}
