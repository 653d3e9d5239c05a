use Rattle.std.proofs.Common.{◌≤◌, All}
use Rattle.look_ahead.proofs.occurrences.put_clause.Given as goal

abbrev pub invariant-loop-code : goal.invariant-loop-code
invariant-loop-code l = All (λ c. c ≤ l.number) l.clauses
