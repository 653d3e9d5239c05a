use Rattle.std.proofs.Common.{ℕ, [], ◌≤◌, length}
use Rattle.clause_arena.specs.Clauses.{live_of}
use Rattle.conflict_analysis.specs.inner.Minimiser.{HasRoom}
use Rattle.conflict_analysis.specs.inner.TrailWalk.{HasMet, IsUnderWay}
use Rattle.conflict_analysis.specs.inner.Tallies.{IsTallied}
use Rattle.conflict_analysis.proofs.first_uip.TrailWalk.descend.Given as goal

abbrev pub invariant-loop-self : goal.invariant-loop-self
invariant-loop-self l =
    (l.i ≤ length l.trail.entries)
    × IsUnderWay (live_of l.arena) l.trail l.i l.self l.lemma
    × HasRoom l.trail.vars l.minimiser
    × HasMet l.trail.entries l.fn.self.seen l.self.seen
    × ((number : ℕ) → IsTallied (live_of l.arena) l.trail number (length l.trail.entries) l.fn.self [] → IsTallied (live_of l.arena) l.trail number l.i l.self l.lemma.hints.items)

abbrev pub decreases-loop-self : goal.decreases-loop-self
decreases-loop-self l = l.i
