use Rattle.std.proofs.Common.{arith, ap, length}
use Rattle.dimacs.specs.logic.Cnf.{Cnf}
use Rattle.dimacs.proofs.FlatLemmas.{length_parts}
use Rattle.dimacs.proofs.base.Base.clause.Goals as goal

pub clause_at-requires-clause-below : goal.clause_at-requires-clause-below
clause_at-requires-clause-below c =
    let f = c.self.inside in
    let n = length_parts f.literals.items f.places.items in
    let v = ap (λ (w : Cnf). length w.clauses) c.self.view_is in
    omega (arith, n, v, f.places.ok.0, c.requires)

pub returns-clause-valid : goal.returns-clause-valid
returns-clause-valid c = rw (← c.self.view_is) c.self.invariant.1
