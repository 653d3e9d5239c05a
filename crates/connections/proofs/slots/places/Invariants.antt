use Rattle.std.proofs.Common.{◌≡◌, map, replicate, false, is_some}
use Rattle.connections.proofs.slots.places.Given as goal

-- none of the places so far has a link
abbrev pub invariant-loop : goal.invariant-loop
invariant-loop g l = map (λ e. is_some e) l.slots.items ≡ replicate l.counter false
