use Rattle.cube_solve.proofs.SessionLogLemmas.{tells_same}
use Rattle.cube_solve.proofs.SessionLemmas.{same_arena}
use Rattle.std.proofs.Common.{refl, subst}
use Rattle.cube_solve.specs.inner.Queries.{AreStamped}
use Rattle.dimacs.specs.logic.Literal.{IsWithin}
use Rattle.cube_solve.proofs.ClauseLemmas.{bound_same}
use Rattle.cube_solve.proofs.SessionLemmas.{ready_marked}
use Rattle.cube_solve.proofs.session.Session.without_repeats.Goals as goal

pub returns-clause-ready : goal.returns-clause-ready
returns-clause-ready g c = ready_marked g.P.Propagator.is_ready g.P.Propagator.attached c.args.self.now _ refl refl
    (subst (λ v. AreStamped v c.mark.new.self) c.vars-vars.ensures c.in_ok-mark.ensures.stamped) c.requires.ready

pub returns-clause-within : goal.returns-clause-within
returns-clause-within g c = bound_same (IsWithin c.args.self.now.search.state.trail.vars) c.args.query.now c.mark.new.kept.items (c.in_ok-mark.ensures.marks).twins c.requires.within

pub returns-clause-tells : goal.returns-clause-tells
returns-clause-tells g c =
    let s = c.args.self.now in
    tells_same s (record s { marks = c.mark.new.self }) (same_arena s.search.state.arena s.search.state.arena refl) refl refl refl refl
