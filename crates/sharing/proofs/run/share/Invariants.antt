use Rattle.std.proofs.Common.{◌≡◌, ◌<◌, ℕ, List, [], length}
use Rattle.shared_logs.specs.SharedLogs.{SharedStep}
use Rattle.cell_worker.specs.WorkerLog.{IsWorkerReady, vars_in}
use Rattle.sharing.specs.Sharing.{TellsClosed}
use Rattle.sharing.specs.inner.Writing.{IsStanding}
use Rattle.sharing.proofs.run.share.Given as goal

abbrev pub invariant-leaves : goal.invariant-leaves
invariant-leaves g l =
    IsWorkerReady g.P.Propagator.is_ready g.P.Propagator.attached l.worker × (vars_in l.worker ≡ l.cell.formula.now.vars) × (l.place < length l.cell.tree.now)
    × (g.F.Folder.has_logged l.fn.folder [] → (bytes : List ℕ) × g.F.Folder.has_logged l.folder bytes × (steps : List SharedStep) × IsStanding l.cell.formula.now steps bytes l.worker
    × (g.T.Teller.has_told l.fn.teller [] → (told : List ℕ) × g.T.Teller.has_told l.teller told × TellsClosed l.cell.tree.now steps told))
