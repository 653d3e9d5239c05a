use Rattle.std.proofs.Common.{ℕ, [], ◌∷◌, Some, subst, ap, ◌∙◌}
use Rattle.std.specs.FinMap.{get}
use Rattle.clause_arena.specs.Clauses.{Clauses, live_of}
use Rattle.clause_arena.proofs.ClauseLaws.{get-remove_other}
use Rattle.cube_solve.specs.inner.Reduction.{AreAllExcept}
use Rattle.cube_solve.proofs.ReductionLemmas.{less_removed, state_removed}
use Rattle.cube_solve.proofs.reduce.delete_clause.Goals as goal

pub detach-requires-clause-there : goal.detach-requires-clause-there
detach-requires-clause-there g c =
    let s = c.in-Some.ensures.some.1 in
    (c.requires.state).all_attached c.in-Some.at.number s.0 (c.in-Some.at.place, s.1.0)

pub returns-in-Some-clause-ready : goal.returns-in-Some-clause-ready
returns-in-Some-clause-ready g c =
    g.met.P.Propagator.elsewhere c.detach.new.self c.args.arena.now c.remove.new.self c.args.trail.now (c.detach.ensures.ready c.args.trail.now c.requires.ready)
    (λ n i. ap (λ (x : Clauses). get x n) c.remove.ensures ∙ get-remove_other c.args.arena.now c.in-Some.at.number n ((c.detach.ensures.attached n).0 i).1)

pub returns-in-Some-clause-state : goal.returns-in-Some-clause-state
returns-in-Some-clause-state g c =
    state_removed c.args.arena.now c.remove.new.self c.in-Some.at.number _ _ c.args.trail.now (less_removed c.args.arena.now c.remove.new.self c.in-Some.at.number c.remove.ensures) c.detach.ensures.attached
    (λ e i r. (c.requires.spare).free e i (r ∙ ap (λ (n : ℕ). Some n) c.in-Some.ensures.some.0)) c.requires.state

pub returns-in-Some-clause-less : goal.returns-in-Some-clause-less
returns-in-Some-clause-less g c =
    subst (λ n. AreAllExcept (live_of c.args.arena.now) (n ∷ []) (live_of c.remove.new.self)) c.in-Some.ensures.some.0 (less_removed c.args.arena.now c.remove.new.self c.in-Some.at.number c.remove.ensures)
