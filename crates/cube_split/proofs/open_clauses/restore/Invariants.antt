use Rattle.std.proofs.Common.{map, take}
use Rattle.cube_split.proofs.OpenLemmas.{AreIn}
use Rattle.cube_split.proofs.open_clauses.restore.Given as goal

-- the variables of the literals so far are in
abbrev pub invariant-loop-place : goal.invariant-loop-place
invariant-loop-place l = AreIn l.fn.counts l.counts (take l.place-index (map (λ e. e.literal) l.places))
