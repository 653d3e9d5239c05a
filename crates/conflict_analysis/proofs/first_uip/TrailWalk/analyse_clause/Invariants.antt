use Rattle.std.proofs.Common.{take}
use Rattle.conflict_analysis.specs.inner.Seen.{met}
use Rattle.conflict_analysis.specs.inner.TrailWalk.{AreMet, HasMet, IsWalk}
use Rattle.conflict_analysis.specs.inner.Tallies.{HasNoted}
use Rattle.conflict_analysis.proofs.first_uip.TrailWalk.analyse_clause.Given as goal

-- the literals so far were met
abbrev pub invariant-loop-literal : goal.invariant-loop-literal
invariant-loop-literal l =
    IsWalk l.trail l.front l.self
    × AreMet (met l.self.seen) (take l.literal-index l.clause)
    × HasMet l.front l.fn.self.seen l.self.seen
    × HasNoted l.fn.self l.self (take l.literal-index l.clause)
