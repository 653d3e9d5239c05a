use Rattle.std.proofs.Common.{◌-◌}
use Rattle.dimacs.proofs.ShortLemmas.{Short}
use Rattle.dimacs.proofs.number.short_size_within.Given as goal

-- few digits so far
abbrev pub invariant-loop-len : goal.invariant-loop-len
invariant-loop-len l = Short l.text l.len l.size

abbrev pub decreases-loop-len : goal.decreases-loop-len
decreases-loop-len l = l.end - l.len
