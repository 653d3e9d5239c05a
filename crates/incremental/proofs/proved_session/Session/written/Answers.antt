use Rattle.std.proofs.Common.{List, ℕ, ◌++◌, sym, subst}
use Rattle.incremental.specs.SessionHistory.{IsAccepted}
use Rattle.incremental.proofs.HistoryLemmas.{accepted}
use Rattle.incremental.proofs.proved_session.Session.written.Goals as goal

pub returns-clause-accepted : goal.returns-clause-accepted
returns-clause-accepted g c = λ L E told text h. subst (λ (x : List ℕ). IsAccepted L E told (text ++ x)) (sym c.deref.ensures.value) (accepted E told text c.args.self.now h)
