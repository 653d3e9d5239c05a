use Rattle.std.proofs.Common.{ℕ, List}
use Rattle.dimacs.specs.logic.Cnf.{Cnf}
use Rattle.cube_solve.specs.Stepwise.{IsUnderWay}
use Rattle.cube_solve.proofs.stepwise.Stepwise.turns.Given as goal

abbrev pub invariant-turns : goal.invariant-turns
invariant-turns g l =
    (B : Cnf) (limit : ℕ) (before : List ℕ) → IsUnderWay g.P.Propagator.is_ready g.P.Propagator.attached B l.cube limit before l.fn.self
    → IsUnderWay g.P.Propagator.is_ready g.P.Propagator.attached B l.cube limit before l.self
