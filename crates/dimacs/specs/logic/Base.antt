-- Pure literals, and the base of a formula.
use Rattle.std.specs.Prelude.{ℕ, zero, suc, ◌+◌, Bool, not, ◌&&◌, List, [], ◌∷◌, ◌++◌, map, filter}
use Rattle.std.specs.List.{list_any, flat_map}
use Rattle.dimacs.specs.logic.Literal.{Literal, Pos, Neg, Clause, negation, has}
use Rattle.dimacs.specs.logic.Cnf.{Cnf}

-- whether the literal l occurs in the clauses
abbrev pub occurs : List Clause → Literal → Bool
occurs clauses l = list_any (λ C. has C l) clauses

-- whether the literal l is pure in the formula f: it occurs, and its negation does not
abbrev pub is_pure : Cnf → Literal → Bool
is_pure f l = occurs f.clauses l && not (occurs f.clauses (negation l))

-- the numbers from first on, count of them
abbrev pub numbers_from : ℕ → ℕ → List ℕ
numbers_from first zero = []
numbers_from first (suc count) = first ∷ numbers_from (first + 1) count

-- the pure literals of the formula f, by rising variable
abbrev pub pure_literals : Cnf → List Literal
pure_literals f = filter (is_pure f) (flat_map (λ v. Pos v ∷ Neg v ∷ []) (numbers_from 1 f.vars))

-- the base of the formula f: its clauses, followed by the unit clause of each pure literal
abbrev pub base_of : Cnf → Cnf
base_of f = record f { clauses = f.clauses ++ map (λ l. l ∷ []) (pure_literals f) }
