use Rattle.std.proofs.Common.{◌≡◌, map, replicate, false, is_some}
use Rattle.links.proofs.coordinator_ends.CoordinatorEnds.new.Given as goal

-- none of the workers so far is linked
abbrev pub invariant-loop : goal.invariant-loop
invariant-loop g l = map (λ e. is_some e) l.ends.items ≡ replicate l.counter false
