use Rattle.std.proofs.Common.{sym, ap, subst}
use Rattle.formula_search.specs.Decisions.{most_of}
use Rattle.formula_search.specs.inner.Streams.{IsEndedBy}
use Rattle.formula_search.proofs.StreamLemmas.{if_some, to_sink}
use Rattle.formula_search.proofs.streamed_decision.decide_less_to.Goals as goal

pub returns-in_ok-report-in-Some-clause-decides : goal.returns-in_ok-report-in-Some-clause-decides
returns-in_ok-report-in-Some-clause-decides g c =
    let F = c.args.formula.now in
    let x = c.in-Some.ending in
    let e = if_some _ x _ c.in-Some.is c.in_ok-found.ensures.ended in
    to_sink F c.args.asked e.log (g.S.LogSink.has c.search_less_to.new.sink) c.in_ok-report-in-Some.report
    (c.in_ok-report-in-Some.ensures.decided F e.log (subst (λ n. IsEndedBy F n x.counts e.log x.end) (sym (ap most_of c.requires.limit)) e.ends) e.bytes) e.there
