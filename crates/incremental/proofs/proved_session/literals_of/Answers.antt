use Rattle.std.proofs.Common.{arith}
use Rattle.incremental.proofs.ModelLemmas.{listed_more}
use Rattle.incremental.proofs.proved_session.literals_of.Goals as goal

pub loop-value-preserved : goal.loop-value-preserved
loop-value-preserved c = record {
  number = (let e = c.loop-value.invariant.number in omega arith);
  listed = listed_more c.args.values.now c.values-value-items.result.now c.loop-value.value-index c.loop-value.number c.loop-value.literals.items c.push.new.self.items c.true_literal.result _
      c.values-value-items.ensures c.loop-value-test.true c.loop-value.invariant.number c.loop-value.invariant.listed c.in_ok-push.ensures.items c.true_literal.ensures;
}
