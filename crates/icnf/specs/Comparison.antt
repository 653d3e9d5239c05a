-- Clauses that are compared with a formula's as they are read, and not stored: what is known of them.
use Rattle.std.specs.Prelude.{ℕ, ◌==◌, ◌&&◌, Bool, true, false, List, [], ◌∷◌, length, slice_index_or}
use Rattle.dimacs.specs.layout.BuilderState.{BuilderState}
use Rattle.dimacs.specs.logic.Cnf.{greatest_in, greatest_of}
use Rattle.dimacs.specs.logic.Literal.{Clause, same}

-- The number of ended clauses, of the open one's literals, and of all literals; the greatest variable of the ended clauses, and of the open
-- one; whether the ended clauses are the formula's first ones, and whether its next one begins with the open one's literals.
pub record Compared : Type 0 where
  pub count : ℕ
  pub at : ℕ
  pub total : ℕ
  pub greatest : ℕ
  pub open_greatest : ℕ
  pub agrees : Bool
  pub open_agrees : Bool

-- whether the second clause begins with the literals of the first one
abbrev pub begins_with : Clause → Clause → Bool
begins_with [] c = true
begins_with (l ∷ ls) [] = false
begins_with (l ∷ ls) (k ∷ c) = same k l && begins_with ls c

-- whether the two clauses are the same list of literals
abbrev pub is_clause : Clause → Clause → Bool
is_clause d c = begins_with d c && (length d == length c)

-- whether the list clauses begins with the clauses done
abbrev pub agree : List Clause → List Clause → Bool
agree clauses [] = true
agree [] (d ∷ done) = false
agree (c ∷ clauses) (d ∷ done) = is_clause d c && agree clauses done

-- what is known of the clauses in a builder's state b, compared with the list clauses
abbrev pub compared : List Clause → BuilderState → Compared
compared clauses b = record {
  count = length b.done;
  at = length b.open_clause;
  total = b.total;
  greatest = greatest_in b.done;
  open_greatest = greatest_of b.open_clause;
  agrees = agree clauses b.done;
  open_agrees = begins_with b.open_clause (slice_index_or clauses (length b.done) []);
}
