use Rattle.coordinator_core.proofs.InvariantLemmas.{note_is}
use Rattle.coordinator_core.proofs.coordinator.Coordinator.note_want.Goals as goal

pub invariant_of-self : goal.invariant_of-self
invariant_of-self c = (c.self.invariant.0, c.self.invariant.1, note_is _ _ c.number.result _ c.self.view_is c.number.ensures.above c.requires.within c.self.invariant.2, c.self.invariant.3, c.self.invariant.4)
