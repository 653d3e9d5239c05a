-- The clauses that a coverage has taken.
use Rattle.std.specs.Prelude.{◌≡◌, ◌≤◌, ℕ, ◌+◌, List, [], ◌∷◌, All, length}
use Rattle.dimacs.specs.logic.Cnf.{Cnf, AreWithin}
use Rattle.dimacs.specs.logic.Literal.{Clause}
use Rattle.log_join.specs.ClosedLeaves.{is_closed}
use Rattle.log_join.specs.JoinedLogs.{Handed, joined_so_far}
use Rattle.log_join.specs.Written.{BetweenLogs}
use Rattle.icnf.specs.Leaves.{Cube, Leaves}
use Rattle.receipts.specs.ClosedLeaves.{is_closed_by}
use Rattle.receipts.specs.declared.coverage.Coverage.{Coverage}

-- the formula of the empty clause alone; every clause follows from it, so that any clause is a log of one line over it
abbrev pub absurdity : Cnf
absurdity = record { vars = 0; clauses = [] ∷ [] }

-- the coverage of a tree has taken these clauses: a leaf is closed exactly if one of them closes it
pub record HasTakenClauses (cubes : List Cube) (clauses : List Clause) (c : Coverage) : Type 0 where
  pub tree : Leaves [] cubes
  pub within : AreWithin 2000000 cubes
  pub few : length cubes ≤ 65536
  pub logs : List Handed
  pub written : List ℕ
  pub between : BetweenLogs absurdity cubes logs c.joiner written
  pub top : (joined_so_far absurdity cubes logs).top ≤ 1 + length clauses
  pub closed : All (λ k. is_closed k ≡ is_closed_by clauses k.cube) (joined_so_far absurdity cubes logs).leaves
