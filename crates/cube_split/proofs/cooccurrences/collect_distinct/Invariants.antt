use Rattle.std.proofs.Common.{◌≤◌, length, take}
use Rattle.cube_split.specs.inner.Ranks.{AreDistinctOf}
use Rattle.cube_split.proofs.cooccurrences.collect_distinct.Given as goal

-- the literals so far, each once
abbrev pub invariant-loop-literal : goal.invariant-loop-literal
invariant-loop-literal l = record { gathered : AreDistinctOf (take l.literal-index l.clause) l.found.items; few : length l.found.items ≤ 3 }
