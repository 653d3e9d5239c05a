use Rattle.std.proofs.Common.{◌≤◌, length}
use Rattle.clause_arena.specs.Clauses.{live_of}
use Rattle.conflict_analysis.specs.inner.TrailWalk.{HasMet}
use Rattle.conflict_analysis.specs.inner.FinalAnalysis.{IsTracing}
use Rattle.conflict_analysis.proofs.final_analysis.trace.Given as goal

abbrev pub invariant-loop-i : goal.invariant-loop-i
invariant-loop-i l =
    (l.i ≤ length l.entries)
    × HasMet l.entries l.fn.seen l.seen
    × IsTracing (live_of l.arena) l.entries l.fn.lemma.lits.items l.i l.seen l.lemma

abbrev pub decreases-loop-i : goal.decreases-loop-i
decreases-loop-i l = l.i
