use Rattle.sessions.proofs.SetLemmas.{held_more, no_pair_more, pair_found}
use Rattle.sessions.proofs.literal_set.LiteralSet.hold_apart.Goals as goal

pub returns-then-is_in-clause-pair : goal.returns-then-is_in-clause-pair
returns-then-is_in-clause-pair c =
    pair_found c.args.lits.now c.loop-l.l-index c.l-item.result c.negate.result c.loop-l.self.stamps.items c.deref.result.now c.loop-l.self.stamp c.is_in.result
    c.loop-l-test.true c.l-item.is c.loop-l.invariant.held c.deref.ensures.value c.negate.ensures c.is_in.ensures c.if-is_in.true

pub loop-l-preserved : goal.loop-l-preserved
loop-l-preserved c = record {
  held = held_more c.args.lits.now c.loop-l.l-index c.l-item.result _ _ c.loop-l-test.true c.l-item.is c.loop-l.invariant.held c.in_ok-insert.ensures.put;
  apart = no_pair_more c.args.lits.now c.loop-l.l-index c.l-item.result c.negate.result c.loop-l.self.stamps.items c.deref.result.now c.loop-l.self.stamp c.is_in.result
      c.loop-l-test.true c.l-item.is c.loop-l.invariant.held c.deref.ensures.value c.negate.ensures c.is_in.ensures c.if-is_in.false c.loop-l.invariant.apart;
}
