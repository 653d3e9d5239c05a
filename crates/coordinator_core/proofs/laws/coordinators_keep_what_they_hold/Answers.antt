use Rattle.std.proofs.Common.{length}
use Rattle.coordinator_core.proofs.NewCoordinatorLemmas.{begins}
use Rattle.coordinator_core.proofs.StepLemmas.{step_keeps}
use Rattle.coordinator_core.proofs.laws.coordinators_keep_what_they_hold.Goals as goal

pub returns-clause-sound : goal.returns-clause-sound
returns-clause-sound c = step_keeps c.definitions_are_a_preamble.ensures.accepted

pub returns-clause-anew : goal.returns-clause-anew
returns-clause-anew c =
    λ s session is. begins s.formula s.definitions s.initial_tree s.limit (length s.jobs) session is.grounds.formula is.grounds.defined is.grounds.initial_is is.tables.some_worker is.tables.few_workers
