use Rattle.std.proofs.Common.{arith, ap}
use Rattle.dimacs.specs.logic.Cnf.{Cnf, literal_count}
use Rattle.dimacs.specs.layout.Flat.{parts}
use Rattle.dimacs.proofs.FlatPush.{fills_count}
use Rattle.dimacs.proofs.BaseLemmas.{pushed}
use Rattle.dimacs.proofs.base.Base.push_clause.Goals as goal

pub push_clause-requires-clause-room : goal.push_clause-requires-clause-room
push_clause-requires-clause-room c =
    let f = c.self.inside in
    let v = ap (λ (w : Cnf). literal_count w.clauses) c.self.view_is in
    omega (arith, v, fills_count f.literals.items f.places.items c.self.invariant.0, f.literals.ok.0, c.requires.literals)

pub invariant_of-self-2 : goal.invariant_of-self-2
invariant_of-self-2 c =
    let f = c.self.inside in (
      c.push_clause.ensures.fills,
      pushed (record { vars = f.vars; clauses = parts f.literals.items f.places.items }) c.args.self.now _ c.args.clause.now c.self.view_is c.self.invariant.1
          c.requires.room c.requires.literals c.requires.within c.in_ok-push_clause.ensures.ok,
    )
