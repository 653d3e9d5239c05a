use Rattle.std.proofs.lemmas.Result.{IfOk-weaker}
use Rattle.commands.specs.declared.filter.Ending.{Ending}
use Rattle.commands.specs.inner.Filter.{IsFiltered, Settles, poured_to}
use Rattle.commands.proofs.KnownLemmas.{on_ok_at}
use Rattle.commands.proofs.filter.run_filter_packed.Goals as goal
use Rattle.reports.specs.declared.report.Report.{Report}

pub returns-in-Ok-clause-poured : goal.returns-in-Ok-clause-poured
returns-in-Ok-clause-poured g c = λ binary path start.
    let made = g.D.Drafts.made in
    let kept = g.D.Drafts.kept in
    let moved = g.P.Filter.moved in
    let ended = g.P.Filter.ended in
    let old = c.args.disk.now in
    let new = c.finish.new.disk in
    let fed = c.feed_part_packed-part.result in
    let text = c.args.text.now in
    let poured = on_ok_at _ _ _ c.in-Ok.is c.feed_part_packed-part.ensures.poured in
    IfOk-weaker c.finish.result
    (λ (r : Report). (e : Ending) × ended fed.taker e × Settles made kept old new fed.part e r) (λ r. IsFiltered moved ended kept old new binary path c.args.taker text r)
    (λ r h. poured_to made moved ended kept old new binary path c.args.part fed.part c.args.taker fed.taker text h.0 r start poured h.1 h.2) c.finish.ensures.ends
