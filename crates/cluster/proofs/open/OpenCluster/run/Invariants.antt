use Rattle.std.proofs.Common.{take}
use Rattle.cluster.specs.Nodes.{AreSound}
use Rattle.cluster.specs.OpenSchedule.{Runs}
use Rattle.cluster.proofs.open.OpenCluster.run.Given as goal

-- the events so far were played
abbrev pub invariant-loop-event : goal.invariant-loop-event
invariant-loop-event l = Runs l.fn.self (take l.event-index l.events) l.self-inside.nodes.items × AreSound l.self-inside.nodes.items
