use Rattle.std.proofs.Common.{ℕ, List, Option, Some, None, length, length-append, ap, subst, arith}
use Rattle.std.specs.List.{Contains}
use Rattle.std.specs.Option.{IfNone}
use Rattle.std.proofs.lemmas.Option.{IfSome_then}
use Rattle.clause_arena.specs.Clauses.{live_of}
use Rattle.dimacs.specs.logic.ClauseMap.{Live}
use Rattle.dimacs.specs.logic.Literal.{Clause}
use Rattle.watches.specs.Law.{IsFixpoint, live_among}
use Rattle.watches.specs.declared.trail.Assigned.{Assigned}
use Rattle.cube_solve.proofs.AssumptionLemmas.{assuming_grows}
use Rattle.cube_solve.proofs.ClauseLemmas.{same_back}
use Rattle.cube_solve.proofs.DecisionOrderLemmas.{order_among, order_grows}
use Rattle.cube_solve.proofs.StateLemmas.{state_after}
use Rattle.cube_solve.proofs.state.State.propagate_all.Goals as goal

pub returns-clause-steady : goal.returns-clause-steady
returns-clause-steady g c =
    let s = c.args.self.now in
    let e = c.propagate-found.ensures in
    record {
      ready = e.ready;
      state = state_after _ _ s.arena c.propagate-found.new.arena s.trail c.propagate-found.new.trail e.attached c.requires.state e.clauses e.trail;
      order = order_among s.arena c.propagate-found.new.arena c.propagate-found.new.trail s.order (same_back s.arena c.propagate-found.new.arena e.clauses)
          (order_grows s.arena s.trail c.propagate-found.new.trail s.order (e.trail).more (e.trail).vars (e.trail).entries c.requires.order);
    }

pub returns-clause-longer : goal.returns-clause-longer
returns-clause-longer g c = omega (arith, length-append c.args.self.now.trail.entries c.propagate-found.ensures.trail.more, ap (length {A = Assigned}) c.propagate-found.ensures.trail.entries)

pub returns-clause-grows : goal.returns-clause-grows
returns-clause-grows g c = (c.propagate-found.ensures.trail.more, c.propagate-found.ensures.trail.entries)

pub returns-clause-assuming : goal.returns-clause-assuming
returns-clause-assuming g c = λ q h. assuming_grows _ c.args.self.now.arena c.args.self.now.trail c.propagate-found.new.trail q c.args.self.now.assumed c.propagate-found.ensures.trail h

pub returns-clause-conflict : goal.returns-clause-conflict
returns-clause-conflict g c = IfSome_then c.propagate-found.result c.propagate-found.ensures.conflict (λ n h. (h.0, h.1.1, h.2))

-- the attached clauses are the live ones
quiet_all : (o : Option ℕ) (att : List ℕ) (live : Live) (es : List Assigned) → ((n : ℕ) (C : Clause) → live n C → Contains att n) → IfNone o (IsFixpoint (live_among att live) es) → IfNone o (IsFixpoint live es)
quiet_all None att live es all q = λ n C h. q n C (all n C h, h)
quiet_all (Some n) att live es all q = tt

pub returns-clause-quiet : goal.returns-clause-quiet
returns-clause-quiet g c =
    let t = c.args.self.now.trail in
    let s = state_after _ _ c.args.self.now.arena c.propagate-found.new.arena t c.propagate-found.new.trail c.propagate-found.ensures.attached c.requires.state c.propagate-found.ensures.clauses c.propagate-found.ensures.trail in
    quiet_all c.propagate-found.result _ (live_of c.propagate-found.new.arena) c.propagate-found.new.trail.entries (λ n C h. subst (λ (xs : List ℕ). Contains xs n) c.propagate-found.ensures.attached (s.all_attached n C h)) c.propagate-found.ensures.quiet
