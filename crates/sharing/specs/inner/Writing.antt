-- What stands between two steps of a worker's loop.
use Rattle.std.specs.Prelude.{◌≡◌, ℕ, ◌≤◌, List, [], ◌++◌, Contains}
use Rattle.dimacs.specs.logic.Cnf.{Cnf}
use Rattle.lrat_text.specs.Log.{Cube}
use Rattle.shared_logs.specs.SharedLogs.{SharedStep}
use Rattle.shared_logs.specs.SharedText.{Names}
use Rattle.cell_worker.specs.WorkerLog.{HasWritten, IsSharedText, names_in}
use Rattle.cell_worker.specs.declared.worker.CellWorker.{CellWorker}
use Rattle.sharing.specs.Sharing.{EndsImporting, FitsLines}
use Rattle.sharing.specs.declared.run.Shared.{Shared}
use Rattle.sharing.specs.declared.run.Shared.TheVariants as end

-- the lines `longer` begin with these steps
abbrev pub Extends : List SharedStep → List SharedStep → Type 0
Extends steps longer = (more : List SharedStep) × (longer ≡ steps ++ more)

-- the search has closed its query
abbrev pub Closing : Shared → Type 0
Closing (end.Satisfied values) = ⊥
Closing end.Closed = Unit {0}
Closing end.ClosedByOthers = Unit {0}
Closing end.Limit = ⊥

-- the worker ends if its search under this query ends so: it has not closed the query, or the query is that of the whole formula
abbrev pub IsLast : Cube → Shared → Type 0
IsLast query (end.Satisfied values) = Unit {0}
IsLast query end.Closed = query ≡ []
IsLast query end.ClosedByOthers = query ≡ []
IsLast query end.Limit = Unit {0}

module _ {P : Type 0} where
  -- a worker has written these steps behind the bytes that were handed out, and each number up to the last one that it gave stands for a name
  pub record IsWritingSteps (F : Cnf) (steps : List SharedStep) (text : List ℕ) (w : CellWorker P) : Type 0 where
    pub names : Names
    pub written : HasWritten F names steps text w
    pub named : (n : ℕ) → 1 ≤ n → n ≤ names_in w → (name : List ℕ) × Contains names (n, name)

  -- it has written some steps
  abbrev pub IsWriting : Cnf → List ℕ → CellWorker P → Type 0
  IsWriting F text w = (steps : List SharedStep) × IsWritingSteps F steps text w

  -- whatever it had written before, it has written that and some steps more
  abbrev pub GoesOn : CellWorker P → CellWorker P → Type 0
  GoesOn old new =
      (F : Cnf) (steps : List SharedStep) (text : List ℕ) → IsWritingSteps F steps text old
      → (longer : List SharedStep) × Extends steps longer × IsWritingSteps F longer text new

  -- it has written these steps and some more, the last of which imports a clause that closes the query
  abbrev pub HasImported : Cnf → Cube → List SharedStep → List ℕ → CellWorker P → Type 0
  HasImported F query steps text w =
      (longer : List SharedStep) × Extends steps longer × IsWritingSteps F longer text w × EndsImporting query longer

  -- it has handed out all that it has written: the bytes are the text of its log
  pub record IsStanding (F : Cnf) (steps : List SharedStep) (text : List ℕ) (w : CellWorker P) : Type 0 where
    pub writing : IsWritingSteps F steps text w
    pub names : Names
    pub is : IsSharedText F names steps text

  -- it has written these steps and some more, and handed them out; its search under the query ended so
  pub record HasEnded (F : Cnf) (query : Cube) (steps : List SharedStep) (text : List ℕ) (end_ : Shared) (w : CellWorker P) : Type 0 where
    pub longer : List SharedStep
    pub extends : Extends steps longer
    pub stands : IsStanding F longer text w
    pub fits : FitsLines F query longer end_
