-- The split rule without definitions: the variable on which a cube is split.
use Rattle.std.specs.Prelude.{◌≡◌, ℕ, ◌<◌, ◌≤◌, ◌==◌, Bool, not, ◌&&◌, List, Option, Some, None, count_by}
use Rattle.std.specs.List.{list_any}
use Rattle.dimacs.specs.logic.Cnf.{Cnf}
use Rattle.dimacs.specs.logic.Literal.{Literal, Clause, var_of, has}
use Rattle.icnf.specs.Leaves.{IsFree}

-- whether the variable v occurs in the clause
abbrev pub has_variable : Clause → ℕ → Bool
has_variable C v = list_any (λ l. var_of l == v) C

-- whether no literal of S is in the clause: it is open
abbrev pub is_apart : List Literal → Clause → Bool
is_apart S C = not (list_any (has S) C)

-- the number of clauses without a literal of S in which the variable v occurs; a clause counts once
abbrev pub stands_in : List Clause → List Literal → ℕ → ℕ
stands_in clauses S v = count_by (λ C. is_apart S C && has_variable C v) clauses

-- a variable's property: of those without a literal in S, it is the one that occurs in the most clauses without a literal of S, and of
-- several the lowest
pub record IsChoice (f : Cnf) (S : List Literal) (v : ℕ) : Type 0 where
  pub free : IsFree S v
  pub some : 0 < stands_in f.clauses S v
  pub most : (w : ℕ) → IsFree S w → stands_in f.clauses S w ≤ stands_in f.clauses S v
  pub lowest : (w : ℕ) → IsFree S w → stands_in f.clauses S w ≡ stands_in f.clauses S v → v ≤ w

-- the rule chooses none: no variable without a literal in S occurs in a clause without a literal of S
pub record HasNoChoice (f : Cnf) (S : List Literal) : Type 0 where
  pub none : (w : ℕ) → IsFree S w → stands_in f.clauses S w ≡ 0

-- the variable that the split rule chooses; none if it chooses none
abbrev pub Choice : Cnf → List Literal → Option ℕ → Type 0
Choice f S None = HasNoChoice f S
Choice f S (Some v) = IsChoice f S v
