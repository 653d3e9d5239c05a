-- Small formulas and assignments, for the worked examples.
use Rattle.std.specs.Prelude.{Bool, nat_lt, List, [], ◌∷◌, map}
use Rattle.dimacs.specs.logic.Base.{numbers_from}
use Rattle.dimacs.specs.logic.Literal.{Clause, Pos, Neg}
use Rattle.dimacs.specs.logic.Cnf.{Cnf}

-- the clause 1 2 0
abbrev pub one_or_two : Clause
one_or_two = Pos 1 ∷ Pos 2 ∷ []

-- the clause 1 -2 0
abbrev pub one_or_not_two : Clause
one_or_not_two = Pos 1 ∷ Neg 2 ∷ []

-- the formula p cnf 2 2, 1 2 0, 1 -2 0
abbrev pub small : Cnf
small = record { vars = 2; clauses = one_or_two ∷ one_or_not_two ∷ [] }

-- an assignment of 30 variables, of which 1 and 2 are false
abbrev pub all_but_two : List Bool
all_but_two = map (nat_lt 2) (numbers_from 1 30)
