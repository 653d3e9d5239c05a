use Rattle.std.proofs.Common.{arith, subst}
use Rattle.honest_cluster.specs.ClosedSchedule.{RunsClosed}
use Rattle.cluster.specs.Closed.{IsReached}
use Rattle.cluster.specs.Members.{state_of}
use Rattle.cluster.proofs.ClosedLemmas.{run_ends, later_reached, reached_right, reached_joined}
use Rattle.cluster.proofs.closed.ClosedCluster.run.Goals as goal

pub invariant_of-self : goal.invariant_of-self
invariant_of-self c =
    let runs : RunsClosed c.args.self.now c.args.events.now (state_of c.loop-event.self-inside.schedule) = run_ends _ _ _ c.loop-event.event-index (omega arith) c.loop-event.invariant in
    later_reached c.args.self.now c.args.events.now (state_of c.loop-event.self-inside.schedule) (subst IsReached c.self.view_is c.self.invariant) runs

pub returns-clause-right : goal.returns-clause-right
returns-clause-right c =
    let runs : RunsClosed c.args.self.now c.args.events.now (state_of c.loop-event.self-inside.schedule) = run_ends _ _ _ c.loop-event.event-index (omega arith) c.loop-event.invariant in
    reached_right c.honest_work_is_never_refused.ensures.right c.closed_clusters_keep_their_word.ensures.formula (state_of c.loop-event.self-inside.schedule)
    (later_reached c.args.self.now c.args.events.now (state_of c.loop-event.self-inside.schedule) (subst IsReached c.self.view_is c.self.invariant) runs)

pub returns-clause-joined : goal.returns-clause-joined
returns-clause-joined c =
    let runs : RunsClosed c.args.self.now c.args.events.now (state_of c.loop-event.self-inside.schedule) = run_ends _ _ _ c.loop-event.event-index (omega arith) c.loop-event.invariant in
    reached_joined c.honest_work_is_never_refused.ensures.joined (state_of c.loop-event.self-inside.schedule)
    (later_reached c.args.self.now c.args.events.now (state_of c.loop-event.self-inside.schedule) (subst IsReached c.self.view_is c.self.invariant) runs)

pub returns-clause-reached : goal.returns-clause-reached
returns-clause-reached c =
    let runs : RunsClosed c.args.self.now c.args.events.now (state_of c.loop-event.self-inside.schedule) = run_ends _ _ _ c.loop-event.event-index (omega arith) c.loop-event.invariant in
    later_reached c.args.self.now c.args.events.now (state_of c.loop-event.self-inside.schedule) (subst IsReached c.self.view_is c.self.invariant) runs
