use Rattle.std.proofs.Common.{◌≡◌}
use Rattle.dimacs.specs.logic.Base.{numbers_from}
use Rattle.cluster.proofs.schedule.first_numbers.Given as goal

-- the numbers so far
abbrev pub invariant-loop-i : goal.invariant-loop-i
invariant-loop-i l = l.numbers.items ≡ numbers_from 1 l.i
