use Rattle.honest_cluster.proofs.Moments.{never_refused, pieces_end_well, dones_end_well, parts_end_well, verdicts_end_well, closed_is_joined, always_right, never_differ}
use Rattle.honest_cluster.proofs.StuckLemmas.{stuck_rightly}
use Rattle.honest_cluster.proofs.laws.honest_work_is_never_refused.Goals as goal

pub returns : goal.returns
returns c = record {
  refused = never_refused c.coordinators_keep_what_they_hold.ensures.sound;
  pieces = pieces_end_well c.coordinators_keep_what_they_hold.ensures.sound;
  dones = dones_end_well c.coordinators_keep_what_they_hold.ensures.sound;
  parts = parts_end_well c.coordinators_keep_what_they_hold.ensures.sound;
  verdicts = verdicts_end_well c.coordinators_keep_what_they_hold.ensures.sound;
  joined = closed_is_joined c.coordinators_keep_what_they_hold.ensures.sound;
  stuck = stuck_rightly c.coordinators_keep_what_they_hold.ensures.sound;
  right = always_right c.coordinators_keep_what_they_hold.ensures.sound;
  agree = never_differ c.coordinators_keep_what_they_hold.ensures.sound c.right_verdicts_agree.ensures;
}
