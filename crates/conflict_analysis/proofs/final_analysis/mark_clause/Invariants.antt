use Rattle.std.proofs.Common.{◌≡◌, true, take}
use Rattle.std.specs.List.{Contains}
use Rattle.dimacs.specs.logic.Literal.{Literal, var_of}
use Rattle.conflict_analysis.specs.inner.Seen.{met}
use Rattle.conflict_analysis.specs.inner.TrailWalk.{HasMet}
use Rattle.conflict_analysis.proofs.final_analysis.mark_clause.Given as goal

abbrev pub invariant-loop-literal : goal.invariant-loop-literal
invariant-loop-literal l =
    HasMet l.front l.fn.seen l.seen
    × ((k : Literal) → Contains (take l.literal-index l.clause) k → met l.seen (var_of k) ≡ true)
