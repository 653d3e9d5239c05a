use Rattle.std.proofs.Common.{◌≡◌, ◌+◌, false, drop}
use Rattle.lrat_text.specs.inner.LineParts.{zero_at}
use Rattle.lrat_text.proofs.verbatim.has_zero.Given as goal

abbrev pub invariant-loop-k : goal.invariant-loop-k
invariant-loop-k l = l.found ≡ false → zero_at (drop l.from l.line) ≡ l.k + zero_at (drop (l.from + l.k) l.line)
