use Rattle.cube_solve.proofs.SessionLogLemmas.{tells_same}
use Rattle.std.proofs.Common.{[], refl, sym, subst, arith}
use Rattle.clause_arena.specs.Clauses.{live_of}
use Rattle.cube_solve.specs.inner.Queries.{AreStamped}
use Rattle.cube_solve.proofs.AssumptionLemmas.{decided_above}
use Rattle.cube_solve.proofs.SessionLemmas.{has_same, ready_same, same_arena}
use Rattle.cube_solve.proofs.session.Session.begin.Goals as goal

pub returns-clause-ready : goal.returns-clause-ready
returns-clause-ready g c =
    let s = c.args.self.now in
    ready_same g.P.Propagator.is_ready g.P.Propagator.attached s _ (same_arena s.search.state.arena c.begin.new.self.arena c.begin.ensures.arena) c.begin.ensures.vars refl refl refl c.begin.ensures.steady
    (subst (λ v. AreStamped v s.marks) (sym c.begin.ensures.vars) (c.requires.ready).stamped) c.requires.ready

pub returns-clause-given : goal.returns-clause-given
returns-clause-given g c = λ F h.
    let s = c.args.self.now in
    has_same F s.search.state.arena c.begin.new.self.arena s.search.lemmas.items (same_arena s.search.state.arena c.begin.new.self.arena c.begin.ensures.arena) h

pub returns-clause-tells : goal.returns-clause-tells
returns-clause-tells g c =
    let s = c.args.self.now in
    tells_same s (record s { search = record s.search { state = c.begin.new.self } }) (same_arena s.search.state.arena c.begin.new.self.arena c.begin.ensures.arena) c.begin.ensures.vars refl refl refl

pub returns-clause-assuming : goal.returns-clause-assuming
returns-clause-assuming g c =
    let s = c.args.self.now.search.state in
    c.begin.ensures.assuming (λ e i r le.
    c.requires.marks e.literal (c.shared_level-shared.ensures e i r (let a = decided_above (live_of s.arena) [] s.trail.entries (((c.requires.ready).steady).state).built e i r in omega arith) le))
