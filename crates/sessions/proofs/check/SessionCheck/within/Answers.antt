use Rattle.std.proofs.Common.{refl}
use Rattle.sessions.proofs.ReadLemmas.{taken_begun}
use Rattle.sessions.proofs.check.SessionCheck.within.Goals as goal

pub returns-clause-taken : goal.returns-clause-taken
returns-clause-taken c = taken_begun _ c.in_ok-proof.ensures refl refl c.within.ensures.progress c.new-2.ensures.items
