use Rattle.std.proofs.Common.{◌≡◌, ◌+◌, ◌≤◌}
use Rattle.cell_worker.specs.WorkerLog.{IsWorkerReady, clock_in, formula_in, gone_in, last_in, names_in, vars_in}
use Rattle.cell_worker.specs.inner.OwnLines.{WritesOwn}
use Rattle.cell_worker.proofs.worker.CellWorker.restore.Given as goal

abbrev pub invariant-loop-place : goal.invariant-loop-place
invariant-loop-place g l =
    IsWorkerReady g.P.Propagator.is_ready g.P.Propagator.attached l.self × (formula_in l.self ≡ formula_in l.fn.self) × (names_in l.self ≡ names_in l.fn.self) × (vars_in l.self ≡ vars_in l.fn.self)
    × (gone_in l.self ≡ gone_in l.fn.self) × (clock_in l.self ≡ clock_in l.fn.self) × (last_in l.self ≤ last_in l.fn.self + l.place) × WritesOwn l.fn.self l.self
