use Rattle.std.proofs.Common.{List, ℕ, sym, subst}
use Rattle.cube_solve.specs.inner.State.{IsState}
use Rattle.cube_solve.proofs.AssumptionLemmas.{assuming_cut}
use Rattle.cube_solve.proofs.DecisionOrderLemmas.{cut_waits, order_cut}
use Rattle.cube_solve.proofs.StateLemmas.{state_cut}
use Rattle.cube_solve.proofs.state.State.backtrack.Goals as goal

pub returns-clause-steady : goal.returns-clause-steady
returns-clause-steady g c =
    let s = c.args.self.now in
    record {
      ready = c.undo.ensures.ready s.arena c.requires.ready;
      state = subst (λ (a : List ℕ). IsState a s.arena c.undo.new.trail) (sym c.undo.ensures.attached)
          (state_cut _ s.arena s.trail c.undo.new.trail c.args.level c.requires.state c.undo.ensures.vars c.undo.ensures.front c.undo.ensures.kept);
      order = order_cut s.trail c.undo.new.trail c.args.level s.order c.put_back.new.self c.undo.ensures.front c.put_back.ensures s.arena c.undo.ensures.vars c.requires.order;
    }

pub returns-clause-assuming : goal.returns-clause-assuming
returns-clause-assuming g c = λ q h.
    assuming_cut q c.args.self.now.trail.entries c.undo.new.trail.entries (c.undo.ensures.front).0 c.args.self.now.assumed c.args.level (c.undo.ensures.front).1 (c.undo.ensures.front).2 c.undo.ensures.kept h

pub returns-clause-waits : goal.returns-clause-waits
returns-clause-waits g c = cut_waits c.args.self.now.trail c.undo.new.trail c.args.level c.args.self.now.order c.put_back.new.self c.undo.ensures.front c.put_back.ensures
