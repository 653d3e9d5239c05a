-- What calls within a turn write.
use Rattle.std.specs.Prelude.{ℕ, List, ◌++◌, All}
use Rattle.dimacs.specs.logic.Cnf.{Cnf}
use Rattle.shared_logs.specs.SharedLogs.{SharedStep}
use Rattle.shared_logs.specs.SharedText.{Names}
use Rattle.cell_worker.specs.WorkerLog.{HasWritten, IsOwn}
use Rattle.cell_worker.specs.declared.worker.CellWorker.{CellWorker}

-- whatever the worker had written, it wrote lemmas and deletions behind it
abbrev pub WritesOwn : {P : Type 0} → CellWorker P → CellWorker P → Type 0
WritesOwn old new =
    (F : Cnf) (names : Names) (steps : List SharedStep) (text : List ℕ) → HasWritten F names steps text old
    → (lines : List SharedStep) × All IsOwn lines × HasWritten F names (steps ++ lines) text new
