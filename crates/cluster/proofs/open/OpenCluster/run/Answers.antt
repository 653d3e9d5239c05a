use Rattle.std.proofs.Common.{◌<◌, [], take, length, arith, refl, subst}
use Rattle.std.proofs.lemmas.List.{take_more}
use Rattle.cluster.specs.Nodes.{AreSound}
use Rattle.cluster.proofs.ScheduleLemmas.{runs_more}
use Rattle.cluster.proofs.open.OpenCluster.run.Goals as goal

pub loop-event-preserved : goal.loop-event-preserved
loop-event-preserved c =
    let here : c.loop-event.event-index < length c.args.events.now = omega arith in (
      rw (take_more c.args.events.now c.loop-event.event-index c.event-item.result here, ← c.event-item.is)
          (runs_more c.args.self.now (take c.loop-event.event-index c.args.events.now) c.loop-event.self-inside.nodes.items c.event-item.result c.happen.result
          c.happen.new.nodes.items c.loop-event.invariant.0 c.happen.ensures.happens),
      c.happen.ensures.sound c.loop-event.invariant.1,
    )

pub returns-clause-agree : goal.returns-clause-agree
returns-clause-agree c =
    c.verdicts_agree.ensures.agree c.args.self.now c.args.self.now c.loop-event.self-inside.nodes.items [] (take c.loop-event.event-index c.args.events.now)
    (subst AreSound c.self.view_is c.self.invariant) refl c.loop-event.invariant.0

pub returns-clause-grown : goal.returns-clause-grown
returns-clause-grown c =
    c.verdicts_agree.ensures.grown c.args.self.now c.args.self.now c.loop-event.self-inside.nodes.items [] (take c.loop-event.event-index c.args.events.now)
    (subst AreSound c.self.view_is c.self.invariant) refl c.loop-event.invariant.0
