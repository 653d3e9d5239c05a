use Rattle.formula_search.proofs.StreamLemmas.{goes_on, has_ended, if_some}
use Rattle.formula_search.proofs.streaming.run.Goals as goal

pub stepped-requires : goal.stepped-requires
stepped-requires g c = let i = c.steps.invariant in (c.args.task.base.now, c.args.task.limit, i.log, i.under)

pub returns-in-Some-end-clause-ended : goal.returns-in-Some-end-clause-ended
returns-in-Some-end-clause-ended g c =
    let t = c.args.task in
    let i = c.steps.invariant in
    let a = c.in_ok-counts.field-0 in
    let done = c.in_ok-counts.ensures.advanced t.base.now t.limit i.log i.under in
    let (file, moved, long, handed) = if_some _ c.in-Some.all _ c.in-Some.is c.in_ok-all.ensures.handed in
    has_ended g.P.Propagator.is_ready g.P.Propagator.attached t.base.now t.limit t.places (g.S.LogSink.has c.args.sink.now) (g.S.LogSink.has c.steps.sink) (g.S.LogSink.has c.hand_on.new.sink)
    c.steps.bytes c.in-Some.all c.steps.search c.stepped.new.search i a done file moved long handed c.in-Some-end.end c.in-Some-end.is

pub steps-preserved : goal.steps-preserved
steps-preserved g c =
    let t = c.args.task in
    let i = c.steps.invariant in
    let a = c.in_ok-counts.field-0 in
    let done = c.in_ok-counts.ensures.advanced t.base.now t.limit i.log i.under in
    let (file, moved, long, handed) = if_some _ c.in-Some.all _ c.in-Some.is c.in_ok-all.ensures.handed in
    goes_on g.P.Propagator.is_ready g.P.Propagator.attached t.base.now t.limit t.places (g.S.LogSink.has c.args.sink.now) (g.S.LogSink.has c.steps.sink) (g.S.LogSink.has c.hand_on.new.sink)
    c.steps.bytes c.in-Some.all c.steps.search c.stepped.new.search i a done file moved long handed c.in-None.is
