use Rattle.cube_solve.proofs.DecisionOrderLemmas.{order_same}
use Rattle.cube_solve.proofs.session.Session.diversify.Goals as goal

pub returns-clause-ready : goal.returns-clause-ready
returns-clause-ready g c =
    let h = c.requires in
    let state = c.args.self.now.search.state in
    record {
      steady = record {
        ready = (h.steady).ready;
        state = (h.steady).state;
        order = order_same state.arena state.trail state.order c.diversify.new.self c.diversify.ensures (h.steady).order;
      };
      below = h.below;
      lemmas = h.lemmas;
      noted = h.noted;
      few = h.few;
      bounded = h.bounded;
      stamped = h.stamped;
    }
