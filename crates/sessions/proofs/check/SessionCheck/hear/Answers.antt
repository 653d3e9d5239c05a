use Rattle.std.proofs.Common.{sym, ap, subst}
use Rattle.sessions.specs.Answers.{Given, Asked}
use Rattle.sessions.specs.inner.Feeding.{HearsRow}
use Rattle.sessions.specs.Rows.{event_of}
use Rattle.sessions.specs.declared.event_lines.Sent.{Sent}
use Rattle.sessions.proofs.check.SessionCheck.hear.Goals as goal

pub returns-in-Clause-clause-hears : goal.returns-in-Clause-clause-hears
returns-in-Clause-clause-hears c =
    let lits = c.args.self.now.events.read.literals in
    subst (λ (s : Sent). HearsRow (event_of s lits) c.args.self.now.proof c.hear.new.self) (sym c.in-Clause.is)
    (λ high. c.hear.ensures.hears (Given lits) high (ap Given (sym c.literals.ensures)))

pub returns-in-Query-clause-hears : goal.returns-in-Query-clause-hears
returns-in-Query-clause-hears c =
    let lits = c.args.self.now.events.read.literals in
    subst (λ (s : Sent). HearsRow (event_of s lits) c.args.self.now.proof c.hear-in-Query.new.self) (sym c.in-Query.is)
    (λ high. c.hear-in-Query.ensures.hears (Asked lits) high (ap Asked (sym c.literals-in-Query.ensures)))
