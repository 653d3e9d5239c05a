use Rattle.formula_search.specs.inner.Streams.{IsStreaming}
use Rattle.formula_search.proofs.streaming.run.Given as goal

abbrev pub invariant-steps : goal.invariant-steps
invariant-steps g l =
    IsStreaming g.P.Propagator.is_ready g.P.Propagator.attached l.task.base.now l.task.limit l.task.places (g.S.LogSink.has l.fn.sink) (g.S.LogSink.has l.sink) l.bytes l.search
