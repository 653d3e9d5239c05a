use Rattle.conflict_analysis.proofs.StampLemmas.{fresh_stamp}
use Rattle.conflict_analysis.proofs.seen.Seen.restart.Goals as goal
use Rattle.conflict_analysis.proofs.seen.Seen.restart.Goals.{then-self, else-self}

pub returns-clause-none : goal.returns-clause-none
returns-clause-none c = fresh_stamp c.if-self.self-inside.stamps.items c.if-self.self-inside.stamp (elim c.if-self.branch [
  | then-self w ↦ rw w.self-inside-is w.clear.ensures.cleared
  | else-self w ↦ rw w.self-inside-is (c.in_ok-make_room.ensures.bounded c.self.inside.stamp c.self.invariant)
])
