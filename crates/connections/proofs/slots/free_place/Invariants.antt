use Rattle.std.proofs.Common.{◌≡◌, ◌<◌, ℕ, map, get_or, true, is_some}
use Rattle.connections.proofs.slots.free_place.Given as goal

-- all places so far have a link
abbrev pub invariant-loop-place : goal.invariant-loop-place
invariant-loop-place g l = (p : ℕ) → p < l.place → get_or (map (λ e. is_some e) l.slots) p true ≡ true
