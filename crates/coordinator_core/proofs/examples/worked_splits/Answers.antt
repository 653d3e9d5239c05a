use Rattle.coordinator_core.proofs.ExampleLemmas.{defined_is, first_is, pair_is, second_is}
use Rattle.coordinator_core.proofs.examples.worked_splits.Goals as goal

pub returns : goal.returns
returns c = record { first = first_is; second = second_is; pair = pair_is; defined = defined_is }
