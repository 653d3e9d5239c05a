use Rattle.commands.specs.inner.Texts.{IsRead, left}
use Rattle.commands.proofs.TextLemmas.{no_report_read, of_read_ok, read_begun}
use Rattle.sessions.specs.Reports.{ChecksSession}
use Rattle.commands.proofs.check_session.check_texts.Goals as goal

pub returns-in-Ok-clause-report : goal.returns-in-Ok-clause-report
returns-in-Ok-clause-report g c =
    let e = left g.E.Read.remaining c.args.events in
    let p = left g.P.Read.remaining c.args.proof in
    let first = read_begun c.args.limits e p c.in-Ok.check c.in-Ok.ensures.taken c.in-Ok.ensures.events c.in-Ok.ensures.proof in
    of_read_ok c.args.limits (ChecksSession c.args.limits) c.check_report.result e p _ _ c.feed.new.check (c.in_ok-feed-in-Ok.ensures.read c.args.limits e p first) (c.check_report.ensures.texts c.args.limits)

pub returns-in-Ok-clause-refused : goal.returns-in-Ok-clause-refused
returns-in-Ok-clause-refused g c =
    let e = left g.E.Read.remaining c.args.events in
    let p = left g.P.Read.remaining c.args.proof in
    let first = read_begun c.args.limits e p c.in-Ok.check c.in-Ok.ensures.taken c.in-Ok.ensures.events c.in-Ok.ensures.proof in
    no_report_read c.args.limits _ c.feed.new.check _ _ e p _ _ (c.in_ok-feed-in-Ok.ensures.read c.args.limits e p first) c.in_ok-feed-in-Ok.ensures.settled (c.check_report.ensures.refusal c.args.limits)
