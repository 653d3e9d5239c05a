use Rattle.honest_cluster.proofs.VerdictLemmas.{verdicts_stay, restarts_drop, nothing_changes}
use Rattle.honest_cluster.proofs.Moments.{one_formula, one_task, one_answer, one_text}
use Rattle.honest_cluster.proofs.laws.closed_clusters_keep_their_word.Goals as goal

pub returns : goal.returns
returns c = record {
  task = one_task c.coordinators_keep_what_they_hold.ensures.sound;
  answer = one_answer c.coordinators_keep_what_they_hold.ensures.sound;
  text = one_text c.coordinators_keep_what_they_hold.ensures.sound;
  formula = one_formula c.coordinators_keep_what_they_hold.ensures.sound;
  stays = verdicts_stay c.workers_keep_what_they_hold.ensures.verdict c.coordinators_keep_what_they_hold.ensures.verdict;
  drops = restarts_drop;
  nothing = nothing_changes c.workers_keep_what_they_hold.ensures.nothing c.coordinators_keep_what_they_hold.ensures.nothing;
}
