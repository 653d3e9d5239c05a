use Rattle.std.proofs.Common.{◌≡◌}
use Rattle.cell_worker.specs.WorkerLog.{IsWorkerReady, vars_in}
use Rattle.sharing.specs.inner.Writing.{GoesOn}
use Rattle.sharing.proofs.exchange.Exchange.take_over.Given as goal

abbrev pub invariant-loop-place : goal.invariant-loop-place
invariant-loop-place g l =
    IsWorkerReady g.P.Propagator.is_ready g.P.Propagator.attached l.worker × GoesOn l.fn.worker l.worker × (vars_in l.worker ≡ vars_in l.fn.worker)
