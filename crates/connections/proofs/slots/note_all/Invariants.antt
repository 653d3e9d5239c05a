use Rattle.std.proofs.Common.{◌≡◌, map, is_some}
use Rattle.connections.proofs.slots.note_all.Given as goal

abbrev pub invariant-loop-event : goal.invariant-loop-event
invariant-loop-event g l = map (λ e. is_some e) l.slots ≡ map (λ e. is_some e) l.fn.slots
