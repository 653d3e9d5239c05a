use Rattle.cube_solve.proofs.StepwiseLemmas.{descended}
use Rattle.cube_solve.proofs.stepwise.Stepwise.descend.Goals as goal

pub returns-clause-under : goal.returns-clause-under
returns-clause-under g c = λ B limit before h.
    let e = c.descend.ensures in
    descended g.P.Propagator.is_ready g.P.Propagator.attached B c.args.cube.now limit before c.args.self.now h c.descend.new.self e.steady e.clauses e.vars e.assuming
