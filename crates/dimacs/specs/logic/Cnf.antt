-- Formulas and the assignments that satisfy them.
use Rattle.std.specs.Prelude.{ℕ, ◌+◌, ◌-◌, ◌≤◌, Bool, false, max, List, [], ◌∷◌, length, slice_index_or, All}
use Rattle.dimacs.specs.logic.Limits.{Limits, large}
use Rattle.dimacs.specs.logic.Literal.{Clause, IsTrueIn, IsWithin, var_of}

-- a formula: a number of variables, and a list of clauses
pub record Cnf : Type 0 where
  pub vars : ℕ
  pub clauses : List Clause

-- the assignment a satisfies the formula f: each clause has a literal that is true
abbrev pub Sat : (ℕ → Bool) → Cnf → Type 0
Sat a f = All (IsTrueIn a) f.clauses

-- the assignment of a list of truth values, of which the first is that of variable 1
abbrev pub assignment_of : List Bool → ℕ → Bool
assignment_of values v = slice_index_or values (v - 1) false

-- the greatest variable of a clause; 0 if it has no literal
abbrev pub greatest_of : Clause → ℕ
greatest_of [] = 0
greatest_of (l ∷ c) = max (var_of l) (greatest_of c)

-- the greatest variable of all these clauses; 0 if they have no literal
abbrev pub greatest_in : List Clause → ℕ
greatest_in [] = 0
greatest_in (c ∷ cs) = max (greatest_of c) (greatest_in cs)

-- the number of literals in clauses, repeats counted
abbrev pub literal_count : List Clause → ℕ
literal_count [] = 0
literal_count (c ∷ cs) = length c + literal_count cs

-- each literal of the clauses has a variable from 1 to vars
abbrev pub AreWithin : ℕ → List Clause → Type 0
AreWithin vars clauses = All (All (IsWithin vars)) clauses

-- f is a formula within the large limits, and the variables of its literals are from 1 to f.vars
pub record IsFormula (f : Cnf) : Type 0 where
  pub vars : f.vars ≤ large.vars
  pub clauses : length f.clauses ≤ large.clauses
  pub literals : literal_count f.clauses ≤ large.literals
  pub within : AreWithin f.vars f.clauses

-- the size of the formula f is within the limits L, whatever variables its literals have
pub record FitsIn (L : Limits) (f : Cnf) : Type 0 where
  pub vars : f.vars ≤ L.vars
  pub clauses : length f.clauses ≤ L.clauses
  pub literals : literal_count f.clauses ≤ L.literals

-- f is a base within its limits, which have room for a full formula, the unit clause of each variable, and the clauses of 64 definitions;
-- and the variables of its literals are from 1 to f.vars
pub record IsBase (f : Cnf) : Type 0 where
  pub vars : f.vars ≤ 199999999
  pub clauses : length f.clauses ≤ 200000190
  pub literals : literal_count f.clauses ≤ 1100000446
  pub within : AreWithin f.vars f.clauses
