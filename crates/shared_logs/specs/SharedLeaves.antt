-- Leaves of a splitting tree that lemmas of searches which share lemmas close.
use Rattle.std.specs.Prelude.{ℕ, List, [], Contains}
use Rattle.dimacs.specs.logic.Literal.{Literal, Clause, negation}
use Rattle.dimacs.specs.logic.Cnf.{Cnf}
use Rattle.icnf.specs.Leaves.{Cube, Leaves}
use Rattle.lrat_check.specs.Soundness.{IsUnsatisfiable}
use Rattle.shared_logs.specs.SharedLogs.{Cell, SharedLog, IsCell, Writes}

-- a log of the cell writes a lemma that closes the leaf of this cube: each literal of the lemma is the negation of a literal of the cube
pub record IsClosedIn (cell : Cell) (q : Cube) : Type 0 where
  pub log : SharedLog
  pub within : Contains cell log
  pub number : ℕ
  pub clause : Clause
  pub time : ℕ
  pub writes : Writes log.steps number clause time
  pub negates : (l : Literal) → Contains clause l → Contains q (negation l)

-- a theorem: if lemmas of the logs of a cell close every leaf of a tree, no assignment satisfies the formula
abbrev pub SharedLeavesRefute : Type 0
SharedLeavesRefute =
    (F : Cnf) (cell : Cell) (cubes : List Cube) → IsCell F cell → Leaves [] cubes → ((q : Cube) → Contains cubes q → IsClosedIn cell q)
    → IsUnsatisfiable F
