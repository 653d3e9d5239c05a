use Rattle.std.proofs.Common.{take}
use Rattle.clause_arena.specs.Clauses.{live_of}
use Rattle.cube_solve.specs.inner.UnitClauses.{IsLed}
use Rattle.cube_solve.proofs.unit_clauses.UnitClauses.push_hints.Given as goal

abbrev pub invariant-loop-other : goal.invariant-loop-other
invariant-loop-other l = IsLed (live_of l.arena) l.trail.entries l.literal (take l.other-index l.clause) l.hints.items
