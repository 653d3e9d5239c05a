-- Sets of literals by stamps, and numbers of clauses that rise.
use Rattle.std.specs.Prelude.{ℕ, ◌<◌, ◌≤◌, ◌==◌, List, [], length, slice_index}
use Rattle.dimacs.specs.logic.Literal.{index_of}
use Rattle.dimacs.specs.logic.Propagation.{Assumed}

-- stamps, stamp: the set of the literals in whose cell this stamp stands
abbrev pub set_in : List ℕ → ℕ → Assumed
set_in stamps stamp = λ l. slice_index stamps (index_of l) == stamp

-- each of the numbers is at most n
abbrev pub AllAtMost : ℕ → List ℕ → Type 0
AllAtMost n xs = (i : ℕ) → slice_index xs i ≤ n

-- the numbers rise: none is below one before it
abbrev pub IsRising : List ℕ → Type 0
IsRising xs = (i j : ℕ) → i ≤ j → j < length xs → slice_index xs i ≤ slice_index xs j

-- the numbers of the given clauses, and the greatest number of a clause or lemma so far
pub record Numbered : Type 0 where
  pub given : List ℕ
  pub last : ℕ

-- no clause is given, and the greatest number is 0
abbrev pub first_numbers : Numbered
first_numbers = record { given = []; last = 0 }
