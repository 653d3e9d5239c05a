use Rattle.std.proofs.Common.{ℕ, List}
use Rattle.std.proofs.lemmas.Result.{IfOk-weaker}
use Rattle.commands.specs.declared.filter.Ending.{Ending}
use Rattle.commands.specs.inner.Filter.{HasFiltered, IsFiltered, Settles, poured_to}
use Rattle.commands.proofs.KnownLemmas.{on_ok_at}
use Rattle.commands.proofs.OfLemmas.{of_ok}
use Rattle.commands.proofs.filter.run_filter.Goals as goal
use Rattle.reports.specs.declared.report.Report.{Report}

pub returns-in-Ok-clause-poured : goal.returns-in-Ok-clause-poured
returns-in-Ok-clause-poured g c = λ binary path start.
    let made = g.D.Drafts.made in
    let kept = g.D.Drafts.kept in
    let moved = g.P.Filter.moved in
    let ended = g.P.Filter.ended in
    let old = c.args.disk.now in
    let new = c.finish.new.disk in
    let fed = c.feed_part-part.result in
    let Fed : List ℕ → Type 0 = HasFiltered made moved c.args.part fed.part c.args.taker fed.taker in
    let Told : List ℕ → Report → Type 0 = λ bytes r. IsFiltered moved ended kept old new binary path c.args.taker bytes r in
    of_ok Fed Told _ c.finish.result (on_ok_at _ _ _ c.in-Ok.is c.feed_part-part.ensures.poured)
    (λ bytes poured. IfOk-weaker c.finish.result
    (λ (r : Report). (e : Ending) × ended fed.taker e × Settles made kept old new fed.part e r) (Told bytes)
    (λ r h. poured_to made moved ended kept old new binary path c.args.part fed.part c.args.taker fed.taker bytes h.0 r start poured h.1 h.2) c.finish.ensures.ends)
