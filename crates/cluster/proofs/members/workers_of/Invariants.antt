use Rattle.std.proofs.Common.{◌≡◌}
use Rattle.cube_split.specs.Pairs.{AreOf, Definitions}
use Rattle.cluster.specs.inner.Members.{new_workers}
use Rattle.cluster.proofs.members.workers_of.Given as goal

-- the workers so far
abbrev pub invariant-loop-i : goal.invariant-loop-i
invariant-loop-i l = (d : Definitions) → AreOf l.formula d → d.wanted ≡ l.defs → l.workers.items ≡ new_workers l.formula d l.i
