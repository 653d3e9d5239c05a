use Rattle.shared_logs.proofs.ExampleLemmas.{one_supported, refuted, third_writes, three_are, two_supported}
use Rattle.shared_logs.proofs.examples.worked_cell.Goals as goal

pub returns-clause-cell : goal.returns-clause-cell
returns-clause-cell c = three_are

pub returns-clause-first : goal.returns-clause-first
returns-clause-first c = one_supported

pub returns-clause-second : goal.returns-clause-second
returns-clause-second c = two_supported

pub returns-clause-empty : goal.returns-clause-empty
returns-clause-empty c = third_writes

pub returns-clause-refuted : goal.returns-clause-refuted
returns-clause-refuted c = refuted
