use Rattle.std.proofs.Common.{◌≡◌, rules, subst}
use Rattle.std.specs.Option.{option_copied}
use Rattle.honest_cluster.specs.ClosedSchedule.{verdict_at}
use Rattle.cluster.specs.Closed.{IsReached}
use Rattle.cluster.proofs.ClosedLemmas.{reached_right, shown_right}
use Rattle.cluster.proofs.closed.ClosedCluster.verdict.Goals as goal

pub returns-clause-right : goal.returns-clause-right
returns-clause-right c =
    let holds : option_copied c.verdict.result ≡ verdict_at c.args.self.now c.args.node = search rules in
    shown_right c.args.self.now c.args.node c.verdict.result
    (reached_right c.honest_work_is_never_refused.ensures.right c.closed_clusters_keep_their_word.ensures.formula c.args.self.now (subst IsReached c.self.view_is c.self.invariant))
    holds
