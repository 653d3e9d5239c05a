use Rattle.std.proofs.Common.{map, take}
use Rattle.cube_split.proofs.OpenLemmas.{AreOut}
use Rattle.cube_split.proofs.open_clauses.withdraw.Given as goal

-- the variables of the literals so far are out
abbrev pub invariant-loop-place : goal.invariant-loop-place
invariant-loop-place l = AreOut l.fn.counts l.counts (take l.place-index (map (λ e. e.literal) l.places))
