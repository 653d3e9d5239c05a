use Rattle.std.proofs.Common.{◌≡◌, max, drop}
use Rattle.dimacs.specs.logic.Cnf.{greatest_of}
use Rattle.commands.proofs.event_source.greatest_with.Given as goal

abbrev pub invariant-loop-literal : goal.invariant-loop-literal
invariant-loop-literal l = max l.greatest (greatest_of (drop l.literal-index l.literals)) ≡ max (greatest_of l.literals) l.number
