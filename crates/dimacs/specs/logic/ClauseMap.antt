-- Clauses by their numbers.
use Rattle.std.specs.Prelude.{◌≡◌, ℕ, Some}
use Rattle.std.specs.List.{enumerate_from}
use Rattle.std.specs.Ordering.{nat_cmp}
use Rattle.std.specs.FinMap.{FinMap, get, from_entries}
use Rattle.dimacs.specs.logic.Literal.{Clause}
use Rattle.dimacs.specs.logic.Cnf.{Cnf}

-- a finite map from numbers to clauses
abbrev pub ClauseMap : Type 0
ClauseMap = FinMap nat_cmp Clause

-- the clauses of the formula f, numbered from 1
abbrev pub map_of : Cnf → ClauseMap
map_of f = from_entries (enumerate_from 1 f.clauses)

-- a relation that says which clauses are live under which numbers
abbrev pub Live : Type 1
Live = ℕ → Clause → Type 0

-- the clauses of the map M are live under their numbers
abbrev pub live_in : ClauseMap → Live
live_in M n C = get M n ≡ Some C
