use Rattle.std.proofs.Common.{arith, length, List, ap}
use Rattle.dimacs.specs.logic.Cnf.{Cnf, literal_count}
use Rattle.dimacs.specs.logic.Literal.{Literal}
use Rattle.cube_split.proofs.UnitLemmas.{units_count}
use Rattle.cube_split.proofs.units.Preamble.base.Goals as goal

pub append_definitions-requires-clause-literals : goal.append_definitions-requires-clause-literals
append_definitions-requires-clause-literals c =
    let n = ap (λ (w : Cnf). literal_count w.clauses) c.in_ok-append_units.ensures in
    let m = ap (λ (w : Cnf). literal_count w.clauses) c.in_ok-of.ensures in
    omega (arith, n, m, units_count c.in_ok-of.field-0 c.deref.result.now, c.vars.ensures.valid.literals, c.self.invariant, ap (λ (ls : List Literal). length ls) c.deref.ensures.value)
