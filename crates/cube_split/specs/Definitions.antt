-- Defined variables: each is equivalent to the conjunction of two literals.
use Rattle.std.specs.Prelude.{ℕ, ◌+◌, ◌<◌, ◌≤◌, List, [], ◌∷◌, ◌++◌, length}
use Rattle.dimacs.specs.logic.Base.{pure_literals, base_of}
use Rattle.dimacs.specs.logic.Cnf.{Cnf}
use Rattle.dimacs.specs.logic.Literal.{Literal, Pos, Neg, Clause, negation, var_of}
use Rattle.cube_split.specs.SplitTree.{with_units}
use Rattle.cube_split.specs.declared.pair.Pair.{Pair}

-- an opening, the value of a preamble: the literals of unit clauses, and the pairs for each of which a variable is defined; pair i, from 0,
-- defines the variable vars + 1 + i
pub record Opening : Type 0 where
  pub units : List Literal
  pub pairs : List Pair

-- the opening of a formula without definitions: the units of the pure literals
abbrev pub pure_opening : Cnf → Opening
pure_opening F = record { units = pure_literals F; pairs = [] }

-- a pair's property: two literals of variables from 1 to vars, that of the lower variable first
pub record IsPairOf (vars : ℕ) (p : Pair) : Type 0 where
  pub from_1 : 0 < var_of p.first
  pub rise : var_of p.first < var_of p.second
  pub up_to : var_of p.second ≤ vars

-- the clause by which d is true if both literals of the pair are
abbrev pub both_clause : ℕ → Pair → Clause
both_clause d p = Pos d ∷ negation p.first ∷ negation p.second ∷ []

-- the clause by which l is true if d is: l is a literal of the pair
abbrev pub part_clause : ℕ → Literal → Clause
part_clause d l = Neg d ∷ l ∷ []

-- the clauses that define the variables d, d + 1, .., one for each pair: each is true exactly if both literals of its pair are
abbrev pub all_clauses : ℕ → List Pair → List Clause
all_clauses d [] = []
all_clauses d (p ∷ pairs) = both_clause d p ∷ part_clause d p.first ∷ part_clause d p.second ∷ all_clauses (d + 1) pairs

-- the formula with one more variable for each pair, and the clauses that define these variables
abbrev pub with_definitions : Cnf → List Pair → Cnf
with_definitions F pairs = record { vars = F.vars + length pairs; clauses = F.clauses ++ all_clauses (F.vars + 1) pairs }

-- the formula with the unit clauses and the definitions of an opening
abbrev pub opened : Cnf → Opening → Cnf
opened F opening = with_definitions (with_units F opening.units) opening.pairs

-- the base of a formula with definitions of these pairs
abbrev pub base_with : Cnf → List Pair → Cnf
base_with F pairs = with_definitions (base_of F) pairs
