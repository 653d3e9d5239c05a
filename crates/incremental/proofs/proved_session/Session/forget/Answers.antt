use Rattle.std.proofs.Common.{refl}
use Rattle.incremental.proofs.HistoryLemmas.{forgotten}
use Rattle.incremental.proofs.proved_session.Session.forget.Goals as goal

pub returns-clause-stands : goal.returns-clause-stands
returns-clause-stands g c = λ L E told text h. forgotten E told text c.args.self.now (record c.args.self.now { out = c.clear.new.self }) refl c.clear.ensures.items h
