-- The texts that a cover has taken.
use Rattle.std.specs.Prelude.{◌≡◌, ◌↔◌, ℕ, true, List}
use Rattle.dimacs.specs.logic.Cnf.{Cnf}
use Rattle.dimacs.specs.logic.Literal.{Clause}
use Rattle.icnf.specs.Leaves.{Cube}
use Rattle.receipts.specs.ClosedLeaves.{is_closed_by, IsClosedByText}
use Rattle.receipts.specs.Receipts.{formula_digest}
use Rattle.receipts.specs.declared.cover.Cover.{Cover}
use Rattle.receipts.specs.Coverage.{HasTakenClauses}

-- the cover has taken these texts: its clauses close a leaf exactly if a receipt over the formula among them does
pub record HasTakenTexts (F : Cnf) (cubes : List Cube) (texts : List (List ℕ)) (c : Cover) : Type 0 where
  pub formula : c.formula.bytes ≡ formula_digest F
  pub clauses : List Clause
  pub covers : HasTakenClauses cubes clauses c.coverage
  pub are : (q : Cube) → (is_closed_by clauses q ≡ true) ↔ IsClosedByText F texts q
