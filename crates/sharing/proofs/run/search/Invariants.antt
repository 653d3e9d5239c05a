use Rattle.std.proofs.Common.{◌≡◌, ℕ, List}
use Rattle.dimacs.specs.logic.Cnf.{Cnf}
use Rattle.shared_logs.specs.SharedLogs.{SharedStep}
use Rattle.cell_worker.specs.WorkerLog.{IsWorkerReady, vars_in}
use Rattle.sharing.specs.declared.run.Shared.TheVariants as end
use Rattle.sharing.specs.inner.Writing.{HasEnded, IsStanding}
use Rattle.sharing.proofs.run.search.Given as goal

abbrev pub invariant-turns : goal.invariant-turns
invariant-turns g l =
    IsWorkerReady g.P.Propagator.is_ready g.P.Propagator.attached l.worker × (vars_in l.worker ≡ vars_in l.fn.worker)
    × ((C : Cnf) (steps : List SharedStep) (log : List ℕ) → IsStanding C steps log l.fn.worker → g.F.Folder.has_logged l.fn.folder log
    → (bytes : List ℕ) × g.F.Folder.has_logged l.folder bytes × HasEnded C l.query steps bytes end.Limit l.worker)

abbrev pub decreases-turns : goal.decreases-turns
decreases-turns g l = l.budget.left
