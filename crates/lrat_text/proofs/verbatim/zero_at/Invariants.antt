use Rattle.std.proofs.Common.{◌≡◌, ◌≤◌, ◌+◌, ◌-◌, length, drop}
use Rattle.lrat_text.specs.inner.LineParts.{zero_at}
use Rattle.lrat_text.proofs.verbatim.zero_at.Given as goal

abbrev pub invariant-loop-from : goal.invariant-loop-from
invariant-loop-from l = record {
  inside : l.from ≤ length l.line;
  left : l.from + zero_at (drop l.from l.line) ≡ zero_at l.line;
}

abbrev pub decreases-loop-from : goal.decreases-loop-from
decreases-loop-from l = length l.line - l.from
