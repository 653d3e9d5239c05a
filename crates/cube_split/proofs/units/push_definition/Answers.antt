use Rattle.std.proofs.Common.{arith, [], ◌∷◌, ap}
use Rattle.dimacs.specs.logic.Cnf.{Cnf, literal_count}
use Rattle.cube_split.proofs.UnitLemmas.{count_push}
use Rattle.cube_split.proofs.units.push_definition.Goals as goal

pub push_clause-requires-2-clause-literals : goal.push_clause-requires-2-clause-literals
push_clause-requires-2-clause-literals c =
    let n = ap (λ (w : Cnf). literal_count w.clauses) c.in_ok-push_clause.ensures.ok in
    omega (arith, n, count_push c.args.base.now.clauses (c.positive-defined.result ∷ c.negate.result ∷ c.negate-2.result ∷ []), c.requires.literals)

pub push_clause-requires-3-clause-literals : goal.push_clause-requires-3-clause-literals
push_clause-requires-3-clause-literals c =
    let n = ap (λ (w : Cnf). literal_count w.clauses) c.in_ok-push_clause.ensures.ok in
    let m = ap (λ (w : Cnf). literal_count w.clauses) c.in_ok-push_clause-2.ensures.ok in
    omega (arith, n, m, count_push c.args.base.now.clauses (c.positive-defined.result ∷ c.negate.result ∷ c.negate-2.result ∷ []), count_push c.push_clause.new.self.clauses (c.negate-3.result ∷ c.args.pair.first ∷ []), c.requires.literals)
