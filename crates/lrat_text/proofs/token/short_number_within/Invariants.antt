use Rattle.std.proofs.Common.{◌-◌}
use Rattle.lrat_text.proofs.ShortLemmas.{Short}
use Rattle.lrat_text.proofs.token.short_number_within.Given as goal

-- few digits so far
abbrev pub invariant-loop-len : goal.invariant-loop-len
invariant-loop-len l = Short l.text l.len l.value

abbrev pub decreases-loop-len : goal.decreases-loop-len
decreases-loop-len l = l.end - l.len
