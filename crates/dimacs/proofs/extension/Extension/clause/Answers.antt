use Rattle.std.proofs.Common.{arith, ap, length}
use Rattle.dimacs.specs.logic.Cnf.{Cnf}
use Rattle.dimacs.proofs.FlatLemmas.{length_parts}
use Rattle.dimacs.proofs.extension.Extension.clause.Goals as goal

pub clause_at-requires-clause-below : goal.clause_at-requires-clause-below
clause_at-requires-clause-below c =
    let f = c.self.inside in
    let n = length_parts f.literals.items f.places.items in
    let v = ap (λ (w : Cnf). length w.clauses) c.self.view_is in
    omega (arith, n, v, f.places.ok.0, c.requires)

pub returns-clause-within : goal.returns-clause-within
returns-clause-within c =
    let literals = rw (← c.deref.ensures.value) at c.self.invariant.1 in
    rw (← c.self.view_is) (c.clause_at.ensures.within c.self.inside.vars literals)
