use Rattle.std.proofs.Common.{◌≡◌, ◌≤◌, ◌+◌, ◌-◌, length, drop}
use Rattle.lrat_text.specs.inner.LineParts.{zero_at}
use Rattle.lrat_text.proofs.verbatim.zero_from.Given as goal

abbrev pub invariant-loop-i : goal.invariant-loop-i
invariant-loop-i l = record {
  some : l.from + 1 ≤ l.i;
  inside : l.i - 1 ≤ length l.line;
  left : l.i - 1 + zero_at (drop (l.i - 1) l.line) ≡ l.from + zero_at (drop l.from l.line);
}
