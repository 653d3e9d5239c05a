use Rattle.cluster.specs.Members.{state_of}
use Rattle.cluster.proofs.ClosedLemmas.{next_reached, reached_right, reached_joined}
use Rattle.cluster.proofs.closed.ClosedCluster.step.Goals as goal

pub invariant_of-self : goal.invariant_of-self
invariant_of-self c = next_reached (state_of c.self.inside.schedule) c.args.event.now c.happen.result (state_of c.happen.new.self) c.self.invariant c.happen.ensures

pub returns-clause-refused : goal.returns-clause-refused
returns-clause-refused c =
    let r = c.self.invariant in
    c.honest_work_is_never_refused.ensures.refused r.beginning (state_of c.self.inside.schedule) r.moment c.args.event.now c.happen.result (state_of c.happen.new.self) c.happen.ensures

pub returns-clause-right : goal.returns-clause-right
returns-clause-right c =
    reached_right c.honest_work_is_never_refused.ensures.right c.closed_clusters_keep_their_word.ensures.formula (state_of c.happen.new.self)
    (next_reached (state_of c.self.inside.schedule) c.args.event.now c.happen.result (state_of c.happen.new.self) c.self.invariant c.happen.ensures)

pub returns-clause-joined : goal.returns-clause-joined
returns-clause-joined c =
    reached_joined c.honest_work_is_never_refused.ensures.joined (state_of c.happen.new.self)
    (next_reached (state_of c.self.inside.schedule) c.args.event.now c.happen.result (state_of c.happen.new.self) c.self.invariant c.happen.ensures)

pub returns-clause-reached : goal.returns-clause-reached
returns-clause-reached c = next_reached (state_of c.self.inside.schedule) c.args.event.now c.happen.result (state_of c.happen.new.self) c.self.invariant c.happen.ensures
