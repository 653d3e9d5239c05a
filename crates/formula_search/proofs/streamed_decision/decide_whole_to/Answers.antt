use Rattle.std.proofs.Common.{subst}
use Rattle.formula_search.specs.inner.Streams.{IsEndedBy}
use Rattle.formula_search.proofs.StreamLemmas.{to_sink}
use Rattle.formula_search.proofs.streamed_decision.decide_whole_to.Goals as goal

pub returns-clause-decides : goal.returns-clause-decides
returns-clause-decides g c =
    let F = c.args.formula.now in
    let x = c.in_ok-ending.ending in
    let e = c.in_ok-ending.ensures.ended in
    to_sink F c.args.asked e.log (g.S.LogSink.has c.search_whole_to.new.sink) c.in_ok-report.report
    (c.in_ok-report.ensures.decided F e.log (subst (λ n. IsEndedBy F n x.counts e.log x.end) c.most_of.ensures e.ends) e.bytes) e.there
