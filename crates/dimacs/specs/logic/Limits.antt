-- The limits on the size of a formula that is read.
use Rattle.std.specs.Prelude.{ℕ, ◌≤◌}

-- the greatest number of variables, of clauses, and of literals in all clauses
pub record Limits : Type 0 where
  pub vars : ℕ
  pub clauses : ℕ
  pub literals : ℕ

-- the limits unless others are given
abbrev pub written : Limits
written = record { vars = 1000000; clauses = 4000000; literals = 50000000 }

-- the greatest limits that can be given, those of `--large`
abbrev pub large : Limits
large = record { vars = 99999999; clauses = 99999999; literals = 999999999 }

-- none of the limits L exceeds that of M
abbrev pub AreNoMore : Limits → Limits → Type 0
AreNoMore L M = (L.vars ≤ M.vars) × (L.clauses ≤ M.clauses) × (L.literals ≤ M.literals)
