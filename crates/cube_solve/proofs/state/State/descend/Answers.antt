use Rattle.std.proofs.Common.{ℕ, [], ◌∷◌, sym, subst, ap, ◌∙◌}
use Rattle.std.specs.Prelude.{max, min}
use Rattle.std.specs.List.{Contains}
use Rattle.dimacs.specs.logic.Literal.{Literal}
use Rattle.cube_solve.specs.inner.DecisionOrder.{KeepsFreeBut}
use Rattle.cube_solve.specs.inner.State.{IsAssuming}
use Rattle.cube_solve.proofs.AssumptionLemmas.{assuming_assumed, assuming_decided}
use Rattle.cube_solve.proofs.ClauseLemmas.{same_trans}
use Rattle.cube_solve.proofs.HeldLemmas.{held_grows}
use Rattle.cube_solve.proofs.DecisionOrderLemmas.{order_grows, order_decided, order_kept, order_total}
use Rattle.cube_solve.proofs.state.State.descend.Goals as goal

pub pick-requires-clause-assumed : goal.pick-requires-clause-assumed
pick-requires-clause-assumed g c = c.propagate_all.ensures.assuming c.args.cube.now c.descending.invariant.assuming

pub pick-requires-clause-held : goal.pick-requires-clause-held
pick-requires-clause-held g c =
    let m = c.propagate_all.ensures.grows in
    held_grows c.descending.held c.args.cube.now c.descending.self.trail.entries c.propagate_all.new.self.trail.entries m.0 m.1 c.descending.invariant.held

pub returns-in-Some-clause-assuming : goal.returns-in-Some-clause-assuming
returns-in-Some-clause-assuming g c = c.propagate_all.ensures.assuming c.args.cube.now c.descending.invariant.assuming

pub returns-in-Some-clause-clauses : goal.returns-in-Some-clause-clauses
returns-in-Some-clause-clauses g c = same_trans c.args.self.now.arena c.descending.self.arena c.propagate_all.new.self.arena c.descending.invariant.clauses c.propagate_all.ensures.clauses

pub returns-in-Fails-clause-assuming : goal.returns-in-Fails-clause-assuming
returns-in-Fails-clause-assuming g c = c.propagate_all.ensures.assuming c.args.cube.now c.descending.invariant.assuming

pub returns-in-Fails-clause-clauses : goal.returns-in-Fails-clause-clauses
returns-in-Fails-clause-clauses g c = same_trans c.args.self.now.arena c.descending.self.arena c.propagate_all.new.self.arena c.descending.invariant.clauses c.propagate_all.ensures.clauses

pub returns-in-Done-clause-assuming : goal.returns-in-Done-clause-assuming
returns-in-Done-clause-assuming g c = c.propagate_all.ensures.assuming c.args.cube.now c.descending.invariant.assuming

pub returns-in-Done-clause-clauses : goal.returns-in-Done-clause-clauses
returns-in-Done-clause-clauses g c = same_trans c.args.self.now.arena c.descending.self.arena c.propagate_all.new.self.arena c.descending.invariant.clauses c.propagate_all.ensures.clauses

pub descending-preserved-in-Assume : goal.descending-preserved-in-Assume
descending-preserved-in-Assume g c =
    let e = c.open_level.ensures.entry in
    let s = c.propagate_all.new.self in
    let a = c.propagate_all.ensures.assuming c.args.cube.now c.descending.invariant.assuming in
    record {
      steady = record {
        ready = c.open_level.ensures.ready;
        state = c.open_level.ensures.state;
        order = order_grows s.arena s.trail c.open_level.new.trail c.pick.new.order (e.0 ∷ []) c.open_level.ensures.vars e.1
            (order_kept s.arena s.trail s.order c.pick.new.order c.in-Assume.ensures.taken (c.propagate_all.ensures.steady).order);
      };
      assuming = subst (IsAssuming c.args.cube.now c.open_level.new.trail.entries) (sym (c.max-self.ensures ∙ ap (max s.assumed) c.level.ensures.present))
          (assuming_assumed c.args.cube.now s.trail.entries c.open_level.new.trail.entries e.0 s.assumed e.1 (subst (Contains c.args.cube.now) (sym e.2) c.in-Assume.ensures.next.0) e.3 a);
      clauses = same_trans c.args.self.now.arena c.descending.self.arena s.arena c.descending.invariant.clauses c.propagate_all.ensures.clauses;
      vars = c.open_level.ensures.vars ∙ c.propagate_all.ensures.vars ∙ c.descending.invariant.vars;
      held = held_grows c.pick.new.held c.args.cube.now s.trail.entries c.open_level.new.trail.entries (e.0 ∷ []) e.1 c.pick.ensures.held;
    }

pub descending-preserved : goal.descending-preserved
descending-preserved g c =
    let e = c.open_level-in-Decide.ensures.entry in
    let s = c.propagate_all.new.self in
    let a = c.propagate_all.ensures.assuming c.args.cube.now c.descending.invariant.assuming in
    record {
      steady = record {
        ready = c.open_level-in-Decide.ensures.ready;
        state = c.open_level-in-Decide.ensures.state;
        order = order_decided s.arena s.trail c.open_level-in-Decide.new.trail s.order c.pick.new.order e.0 c.open_level-in-Decide.ensures.vars e.1
            (subst (λ (l : Literal). KeepsFreeBut s.trail l s.order c.pick.new.order) (sym e.2) c.in-Decide.ensures.taken) (c.propagate_all.ensures.steady).order;
      };
      assuming = subst (IsAssuming c.args.cube.now c.open_level-in-Decide.new.trail.entries) (sym (c.min-self.ensures ∙ ap (λ (n : ℕ). min n s.assumed) c.level-level.ensures.present))
          (assuming_decided c.args.cube.now s.trail.entries c.open_level-in-Decide.new.trail.entries e.0 s.assumed e.1 c.in-Decide.ensures.next.0 e.3 a);
      clauses = same_trans c.args.self.now.arena c.descending.self.arena s.arena c.descending.invariant.clauses c.propagate_all.ensures.clauses;
      vars = c.open_level-in-Decide.ensures.vars ∙ c.propagate_all.ensures.vars ∙ c.descending.invariant.vars;
      held = held_grows c.pick.new.held c.args.cube.now s.trail.entries c.open_level-in-Decide.new.trail.entries (e.0 ∷ []) e.1 c.pick.ensures.held;
    }

pub returns-in-Fails-clause-steady : goal.returns-in-Fails-clause-steady
returns-in-Fails-clause-steady g c =
    let s = c.propagate_all.new.self in
    let e = c.propagate_all.ensures.steady in
    record { ready = e.ready; state = e.state; order = order_kept s.arena s.trail s.order c.pick.new.order c.in-Fails.ensures.taken e.order }

pub returns-in-Done-clause-steady : goal.returns-in-Done-clause-steady
returns-in-Done-clause-steady g c =
    let s = c.propagate_all.new.self in
    let e = c.propagate_all.ensures.steady in
    record { ready = e.ready; state = e.state; order = order_kept s.arena s.trail s.order c.pick.new.order (c.in-Done.ensures.taken).0 e.order }

pub returns-in-Done-clause-found : goal.returns-in-Done-clause-found
returns-in-Done-clause-found g c =
    let s = c.propagate_all.new.self in
    let e = c.propagate_all.ensures.steady in
    (c.in-None.ensures.quiet, c.in-Done.ensures.next, order_total s.arena s.trail s.order (e.state).inside e.order (c.in-Done.ensures.taken).1)
