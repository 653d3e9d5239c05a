use Rattle.std.proofs.Common.{◌≡◌, ◌||◌, map, take}
use Rattle.std.specs.List.{filter}
use Rattle.dimacs.specs.logic.Literal.{negation, has}
use Rattle.log_join.proofs.forks.resolve.Given as goal

abbrev pub invariant-loop-l : goal.invariant-loop-l
invariant-loop-l l = l.clause.items ≡ filter (λ k. has l.left k || has l.right k) (map negation (take l.l-index l.path))
