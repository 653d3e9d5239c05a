use Rattle.std.proofs.Common.{ap, ◌∙◌}
use Rattle.watches.specs.Trails.{TrailValue}
use Rattle.cube_solve.proofs.AssumptionLemmas.{assuming_begins}
use Rattle.cube_solve.proofs.DecisionOrderLemmas.{order_begins}
use Rattle.cube_solve.proofs.state.State.new.Goals as goal

pub returns-clause-assuming : goal.returns-clause-assuming
returns-clause-assuming g c = λ q. assuming_begins q _ (ap (λ (t : TrailValue). t.entries) c.in_ok-trail.ensures)

pub returns-clause-steady : goal.returns-clause-steady
returns-clause-steady g c =
    let e = c.in_ok-load.ensures in
    record {
      ready = e.ready;
      state = e.state;
      order = order_begins c.args.base.now c.load.new.arena c.in_ok-trail.trail c.in_ok-order.order c.in_ok-order.ensures.vars (ap (λ (t : TrailValue). t.vars) c.in_ok-trail.ensures ∙ c.vars-2.ensures.value) e.linked c.in_ok-order.ensures.named;
    }
