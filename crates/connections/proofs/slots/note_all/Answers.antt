use Rattle.std.proofs.Common.{◌∙◌}
use Rattle.connections.proofs.SlotLemmas.{kept_at}
use Rattle.connections.proofs.slots.note_all.Goals as goal

pub loop-event-preserved-then-place-slots : goal.loop-event-preserved-then-place-slots
loop-event-preserved-then-place-slots g c = kept_at c.loop-event.slots _ _ _ c.note.ensures ∙ c.loop-event.invariant
