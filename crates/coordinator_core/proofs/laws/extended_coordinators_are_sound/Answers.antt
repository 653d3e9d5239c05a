use Rattle.coordinator_core.proofs.AddedClausesLemmas.{extended_sound}
use Rattle.coordinator_core.proofs.laws.extended_coordinators_are_sound.Goals as goal

pub returns-clause-sound : goal.returns-clause-sound
returns-clause-sound c = extended_sound c.what_is_kept_is_right.ensures.right
