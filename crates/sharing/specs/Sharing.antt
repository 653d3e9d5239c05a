-- What a worker of a cell leaves in its log, what it tells, and how it ends.
use Rattle.std.specs.Prelude.{◌≡◌, ℕ, ◌+◌, ◌<◌, List, [], ◌∷◌, ◌++◌, length, flat_map, slice_index_or, All, Contains, codes, decimal}
use Rattle.dimacs.specs.logic.Cnf.{Cnf}
use Rattle.dimacs.specs.logic.Literal.{Literal, Clause, negation}
use Rattle.lrat_text.specs.Log.{Cube}
use Rattle.cube_solve.specs.Session.{IsSolution}
use Rattle.shared_logs.specs.SharedLogs.{SharedStep, Lemma, Import, Deletion, Clock}
use Rattle.shared_logs.specs.SharedText.{Names}
use Rattle.cell_worker.specs.WorkerLog.{EndsClosing, IsSharedText}
use Rattle.sharing.specs.declared.run.Shared.{Shared}
use Rattle.sharing.specs.declared.run.Shared.TheVariants as end

-- the bytes are the beginning of the text of a log with imports over the formula
pub record IsBeginning (F : Cnf) (bytes : List ℕ) : Type 0 where
  pub names : Names
  pub steps : List SharedStep
  pub rest : List ℕ
  pub text : IsSharedText F names steps (bytes ++ rest)

-- the last of these lines imports a clause, each literal of which is the negation of a literal of the query
pub record EndsImporting (query : Cube) (lines : List SharedStep) : Type 0 where
  pub front : List SharedStep
  pub number : ℕ
  pub clause : Clause
  pub name : List ℕ
  pub there : ℕ
  pub ends : lines ≡ front ++ Import number clause name there ∷ []
  pub negates : (l : Literal) → Contains clause l → Contains query (negation l)

-- an end is right for the formula and the query, if these are the lines of the worker's log
abbrev pub FitsLines : Cnf → Cube → List SharedStep → Shared → Type 0
FitsLines F query lines (end.Satisfied values) = IsSolution F.vars F.clauses query values
FitsLines F query lines end.Closed = (number : ℕ) × EndsClosing query number lines
FitsLines F query lines end.ClosedByOthers = EndsImporting query lines
FitsLines F query lines end.Limit = Unit {0}

-- ---- leaves
-- the line is a lemma or an import of the clause
abbrev pub Adds : Clause → SharedStep → Type 0
Adds C (Lemma number D hints) = C ≡ D
Adds C (Import number D name there) = C ≡ D
Adds C (Deletion numbers) = ⊥
Adds C (Clock time) = ⊥

-- one of these lines is a lemma or an import, each literal of which is the negation of a literal of the cube
pub record HaveClosed (q : Cube) (lines : List SharedStep) : Type 0 where
  pub line : SharedStep
  pub within : Contains lines line
  pub clause : Clause
  pub adds : Adds clause line
  pub negates : (l : Literal) → Contains clause l → Contains q (negation l)

-- the line that tells that the leaf at a place, from 0, is closed
abbrev pub leaf_line : ℕ → List ℕ
leaf_line place = codes "c leaf " ++ decimal (place + 1) ++ codes " closed\n"

-- the text tells that leaves of the tree are closed, each of which these lines have closed
pub record TellsClosed (tree : List Cube) (lines : List SharedStep) (text : List ℕ) : Type 0 where
  pub places : List ℕ
  pub is : text ≡ flat_map leaf_line places
  pub closed : All (λ place. (place < length tree) × HaveClosed (slice_index_or tree place []) lines) places

-- The bytes are the text of a log with imports over the formula, whose lines have closed each leaf that is told closed, and the end is right
-- for the whole formula. The positions are: formula, tree, bytes of the log, what was told, the end.
pub record IsRightShare (F : Cnf) (tree : List Cube) (bytes told : List ℕ) (end_ : Shared) : Type 0 where
  pub names : Names
  pub steps : List SharedStep
  pub text : IsSharedText F names steps bytes
  pub tells : TellsClosed tree steps told
  pub fits : FitsLines F [] steps end_
