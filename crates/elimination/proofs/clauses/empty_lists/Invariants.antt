use Rattle.std.proofs.Common.{◌≡◌, [], length}
use Rattle.std.specs.List.{All}
use Rattle.elimination.proofs.clauses.empty_lists.Given as goal

abbrev pub invariant-loop : goal.invariant-loop
invariant-loop l = record { len : length l.lists.items ≡ l.counter; empty : All (λ v. v.items ≡ []) l.lists.items }
