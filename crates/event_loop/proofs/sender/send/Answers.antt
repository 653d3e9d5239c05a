use Rattle.std.proofs.Common.{arith}
use Rattle.event_loop.proofs.AccountLemmas.{refuses_one, spends_one}
use Rattle.event_loop.proofs.sender.send.Goals as goal

pub returns-in-Ok-clause-spends : goal.returns-in-Ok-clause-spends
returns-in-Ok-clause-spends g c = spends_one g.A.Arrivals _ _ c.send_to.ensures.calls c.send_to.ensures.arrivals c.send_to.ensures.ended c.send_to.ensures.links

pub returns-in-Ok-clause-refusals : goal.returns-in-Ok-clause-refusals
returns-in-Ok-clause-refusals g c = record {
  here = omega (arith, c.in-Ok.ensures.refusal);
  elsewhere = λ p other. let same = c.send_to.ensures.elsewhere p other in omega (arith, same);
}

pub returns-in-Err-clause-spends : goal.returns-in-Err-clause-spends
returns-in-Err-clause-spends g c = spends_one g.A.Arrivals _ _ c.send_to.ensures.calls c.send_to.ensures.arrivals c.send_to.ensures.ended c.send_to.ensures.links

pub returns-in-Err-clause-refusals : goal.returns-in-Err-clause-refusals
returns-in-Err-clause-refusals g c = refuses_one g.A.Arrivals _ _ _ c.in-Err.ensures.refusal c.send_to.ensures.elsewhere
