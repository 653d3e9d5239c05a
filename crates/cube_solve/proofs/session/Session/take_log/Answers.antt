use Rattle.cube_solve.proofs.SessionLemmas.{given_logged, ready_logged}
use Rattle.cube_solve.proofs.SessionLogLemmas.{known_logged}
use Rattle.cube_solve.proofs.session.Session.take_log.Goals as goal

pub returns-clause-ready : goal.returns-clause-ready
returns-clause-ready g c = λ h. ready_logged g.P.Propagator.is_ready g.P.Propagator.attached c.args.self.now c.take_log.new.self c.take_log.ensures.rest h

pub returns-clause-given : goal.returns-clause-given
returns-clause-given g c = λ F h. given_logged g.P.Propagator.is_ready g.P.Propagator.attached c.args.self.now c.take_log.new.self c.take_log.ensures.rest F h

pub returns-clause-known : goal.returns-clause-known
returns-clause-known g c = λ given M h. known_logged c.args.self.now c.take_log.new.self c.take_log.ensures.rest given M h
