use Rattle.watches.proofs.ScanLemmas.{none}
use Rattle.watches.proofs.MovedRefsLemmas.{step_followed, step_waiting}
use Rattle.watches.proofs.moved_refs.update_refs.Goals as goal

pub loop-i-preserved : goal.loop-i-preserved
loop-i-preserved c = record {
  followed = step_followed c.args.moves.now c.args.clauses.now c.loop-i.clauses c.loop-i.i c.ref_after.result none c.loop-i.auto.clauses c.loop-i-test.true c.loop-i.invariant.followed c.loop-i.invariant.waiting c.ref_after.ensures;
  waiting = step_waiting c.args.moves.now c.args.clauses.now c.loop-i.clauses c.loop-i.i c.ref_after.result none c.loop-i.auto.clauses c.loop-i-test.true c.loop-i.invariant.waiting;
}
