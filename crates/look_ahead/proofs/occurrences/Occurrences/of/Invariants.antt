use Rattle.std.proofs.Common.{◌≤◌, All}
use Rattle.look_ahead.proofs.occurrences.Occurrences.of.Given as goal

abbrev pub invariant-loop-i : goal.invariant-loop-i
invariant-loop-i l = All (λ c. c ≤ l.i) l.occurrences.items
