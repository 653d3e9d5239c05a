use Rattle.std.proofs.Common.{rules}
use Rattle.runs.proofs.coordinator_calls.poll.Goals as goal

pub returns-clause-goes_on : goal.returns-clause-goes_on
returns-clause-goes_on c = record { formula = search rules; workers = search rules }
