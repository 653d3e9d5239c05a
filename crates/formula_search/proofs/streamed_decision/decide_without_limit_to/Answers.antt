use Rattle.std.proofs.Common.{◌^◌, sym, ap, subst, arith}
use Rattle.formula_search.specs.Decisions.{most_of}
use Rattle.formula_search.specs.inner.Streams.{IsEndedBy}
use Rattle.formula_search.proofs.StreamLemmas.{ended_longer, to_sink}
use Rattle.formula_search.proofs.streamed_decision.decide_without_limit_to.Goals as goal

pub returns-clause-decides : goal.returns-clause-decides
returns-clause-decides g c =
    let F = c.args.formula.now in
    let x = c.in_ok-ending.ending in
    let e = c.in_ok-ending.ensures.ended in
    let ends = ended_longer F 2000 (2 ^ 47) (omega arith) x.counts e.log x.end c.if-is_at_limit.ensures e.ends in
    to_sink F c.args.asked e.log (g.S.LogSink.has c.search_whole_to.new.sink) c.in_ok-report-2.report
    (c.in_ok-report-2.ensures.decided F e.log (subst (λ n. IsEndedBy F n x.counts e.log x.end) (sym (ap most_of c.requires.limit)) ends) e.bytes) e.there
