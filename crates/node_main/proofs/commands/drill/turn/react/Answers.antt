use Rattle.std.proofs.Common.{inr, refl}
use Rattle.node_main.proofs.commands.drill.turn.react.Goals as goal

pub returns-in-NoMemory-clause-stays : goal.returns-in-NoMemory-clause-stays
returns-in-NoMemory-clause-stays c =
    let reached = c.recall_schedule.ensures in
    c.closed_clusters_keep_their_word.ensures.nothing reached.beginning c.args.cluster.now reached.moment
    c.in-Some.event _ c.step.new.self c.in-NoMemory.ensures.happens (inr refl)
