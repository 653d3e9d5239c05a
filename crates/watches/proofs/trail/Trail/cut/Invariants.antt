use Rattle.std.proofs.Common.{◌≡◌, ◌<◌, List, ◌++◌, length}
use Rattle.std.specs.List.{All}
use Rattle.watches.specs.declared.trail.Assigned.{Assigned}
use Rattle.watches.proofs.trail.Trail.cut.Given as goal

abbrev pub invariant-loop-self : goal.invariant-loop-self
invariant-loop-self l = (l.self.vars ≡ l.fn.self.vars) × ((gone : List Assigned) × (l.fn.self.entries ≡ l.self.entries ++ gone) × All (λ e. l.level < e.level) gone)

abbrev pub decreases-loop-self : goal.decreases-loop-self
decreases-loop-self l = length l.self.entries
