-- Formulas to which clauses are added.
use Rattle.std.specs.Prelude.{max, ◌++◌}
use Rattle.dimacs.specs.logic.Cnf.{Cnf}

-- the formula f with the clauses of x after its own, over the greater number of variables
abbrev pub extended : Cnf → Cnf → Cnf
extended f x = record { vars = max f.vars x.vars; clauses = f.clauses ++ x.clauses }
