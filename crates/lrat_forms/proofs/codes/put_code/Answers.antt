use Rattle.std.proofs.Common.{arith}
use Rattle.lrat_forms.proofs.CodeLemmas.{adds_last, adds_low}
use Rattle.lrat_forms.proofs.codes.put_code.Goals as goal

pub loop-rest-preserved : goal.loop-rest-preserved
loop-rest-preserved c = λ new later.
    c.loop-rest.invariant new (adds_low c.loop-rest.out.items c.push.new.self.items new c.loop-rest.rest c.loop-rest-test.true c.in_ok-push.ensures.items later)

pub returns : goal.returns
returns c = c.loop-rest.invariant c.push-2.new.self.items (adds_last c.loop-rest.out.items c.push-2.new.self.items c.loop-rest.rest (omega (arith, c.loop-rest-test.false)) c.in_ok-push-2.ensures.items)
