use Rattle.cell_worker.proofs.RestoredLemmas.{writes_nothing}
use Rattle.cell_worker.proofs.worker.CellWorker.settle.Goals as goal

pub returns-then-is_solution-clause-stands : goal.returns-then-is_solution-clause-stands
returns-then-is_solution-clause-stands g c = writes_nothing c.args.self.now
