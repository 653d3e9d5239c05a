use Rattle.std.proofs.Common.{◌≡◌, ℕ, ◌<◌, ◌≤◌, length, get_or, None}
use Rattle.watches.specs.declared.trail.Assigned.{Assigned}
use Rattle.cube_solve.specs.inner.Queries.{IsMarked}
use Rattle.cube_solve.proofs.query.shared_level.Given as goal

abbrev pub invariant-going_down : goal.invariant-going_down
invariant-going_down l = record {
  within : l.i ≤ length l.trail.entries;
  marked : (k : ℕ) (d : Assigned) → l.i ≤ k → k < length l.trail.entries → (get_or l.trail.entries k d).reason ≡ None → 0 < (get_or l.trail.entries k d).level → (get_or l.trail.entries k d).level ≤ l.shared
      → IsMarked l.marks (get_or l.trail.entries k d).literal;
}

abbrev pub decreases-going_down : goal.decreases-going_down
decreases-going_down l = l.i
