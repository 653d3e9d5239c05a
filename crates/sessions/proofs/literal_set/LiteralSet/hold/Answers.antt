use Rattle.sessions.proofs.SetLemmas.{held_more}
use Rattle.sessions.proofs.literal_set.LiteralSet.hold.Goals as goal

pub loop-l-preserved : goal.loop-l-preserved
loop-l-preserved c = held_more c.args.lits.now c.loop-l.l-index c.l-item.result _ _ c.loop-l-test.true c.l-item.is c.loop-l.invariant c.in_ok-insert.ensures.put
