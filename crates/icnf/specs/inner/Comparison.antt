-- Clauses that are compared with a formula's: what a literal, and a clause's end, change.
use Rattle.std.specs.Prelude.{ℕ, ◌+◌, ◌≤◌, ◌==◌, ◌&&◌, Bool, true, nat_lt, max, List, [], length, slice_index_or}
use Rattle.dimacs.specs.logic.Limits.{large}
use Rattle.dimacs.specs.logic.Literal.{Literal, Pos, Clause, same, var_of}
use Rattle.icnf.specs.Comparison.{Compared}

-- whether the clause c has the literal l at the index at, from 0
abbrev pub has_at : Clause → ℕ → Literal → Bool
has_at c at l = nat_lt at (length c) && same (slice_index_or c at (Pos 0)) l

-- whether there is a clause of index i, from 0, and it has len literals
abbrev pub ends_at : List Clause → ℕ → ℕ → Bool
ends_at clauses i len = nat_lt i (length clauses) && (len == length (slice_index_or clauses i []))

-- what is known before the first literal
abbrev pub none_compared : Compared
none_compared = record { count = 0; at = 0; total = 0; greatest = 0; open_greatest = 0; agrees = true; open_agrees = true }

-- what is known after the literal l of the open clause
unfoldable pub with_literal : List Clause → Literal → Compared → Compared
with_literal clauses l c = record c {
  at = c.at + 1;
  total = c.total + 1;
  open_greatest = max c.open_greatest (var_of l);
  open_agrees = c.open_agrees && has_at (slice_index_or clauses c.count []) c.at l;
}

-- what is known after the end of the open clause
unfoldable pub with_end : List Clause → Compared → Compared
with_end clauses c = record c {
  count = c.count + 1;
  at = 0;
  greatest = max c.greatest c.open_greatest;
  open_greatest = 0;
  agrees = c.agrees && c.open_agrees && ends_at clauses c.count c.at;
  open_agrees = true;
}

-- the invariant of a comparison: its counts are within the large limits
pub record AreCounted (c : Compared) : Type 0 where
  pub count : c.count ≤ large.clauses
  pub at : c.at ≤ c.total
  pub total : c.total ≤ large.literals
  pub greatest : c.greatest ≤ large.vars
  pub open_greatest : c.open_greatest ≤ large.vars
