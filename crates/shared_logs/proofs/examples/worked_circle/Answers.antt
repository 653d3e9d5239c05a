use Rattle.shared_logs.proofs.ExampleLemmas.{back_supported, goes_back, no_cell, not_two, repeating_is, unsupported}
use Rattle.shared_logs.proofs.examples.worked_circle.Goals as goal

pub returns-clause-does_not_follow : goal.returns-clause-does_not_follow
returns-clause-does_not_follow c = not_two

pub returns-clause-logs : goal.returns-clause-logs
returns-clause-logs c = repeating_is

pub returns-clause-unsupported : goal.returns-clause-unsupported
returns-clause-unsupported c = unsupported

pub returns-clause-no_cell : goal.returns-clause-no_cell
returns-clause-no_cell c = no_cell

pub returns-clause-all_supported : goal.returns-clause-all_supported
returns-clause-all_supported c = back_supported

pub returns-clause-goes_back : goal.returns-clause-goes_back
returns-clause-goes_back c = goes_back
