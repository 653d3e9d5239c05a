use Rattle.std.proofs.Common.{subst, sym}
use Rattle.std.specs.Prelude.{Err}
use Rattle.sessions.specs.Check.{Finishes}
use Rattle.sessions.specs.declared.check.SessionFault.{SessionFault}
use Rattle.sessions.proofs.FinishLemmas.{finishes_clause, finishes_query, finishes_right, finishes_stopped}
use Rattle.sessions.proofs.check.SessionCheck.finish.Goals as goal

pub returns-in-Ended : goal.returns-in-Ended
returns-in-Ended c = λ L e p h. finishes_right e p c.args.self.now c.in_default.is c.if-not-self.false h c.in-Ended.is

pub returns-in-Stopped : goal.returns-in-Stopped
returns-in-Stopped c = λ L e p h. finishes_stopped e p c.args.self.now c.in_default.is c.if-not-self.false h c.in-Stopped.fault c.in-Stopped.is

pub returns-in-Clause : goal.returns-in-Clause
returns-in-Clause c = λ L e p h.
    subst (λ (f : SessionFault). Finishes L e p c.args.self.now (Err f)) (sym c.unheard.ensures) (finishes_clause e p c.args.self.now c.in_default.is c.if-not-self.false h c.in-Clause.is)

pub returns-in-Query : goal.returns-in-Query
returns-in-Query c = λ L e p h.
    subst (λ (f : SessionFault). Finishes L e p c.args.self.now (Err f)) (sym c.unheard-in-Query.ensures) (finishes_query e p c.args.self.now c.in_default.is c.if-not-self.false h c.in-Query.is)
