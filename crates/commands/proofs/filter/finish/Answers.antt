use Rattle.std.proofs.lemmas.Result.{IfOk-weaker}
use Rattle.commands.specs.declared.filter.Ending.{Ending}
use Rattle.commands.specs.inner.Filter.{Settles}
use Rattle.commands.proofs.filter.finish.Goals as goal
use Rattle.reports.specs.declared.report.Report.{Report}

pub returns-in-Ok-clause-ends : goal.returns-in-Ok-clause-ends
returns-in-Ok-clause-ends g c =
    let Told : Ending → Report → Type 0 = Settles g.D.Drafts.made g.D.Drafts.kept c.args.disk.now c.keep_or_remove.new.disk c.args.part in
    IfOk-weaker c.keep_or_remove.result (Told c.in-Ok.ending) (λ (r : Report). (e : Ending) × g.P.Filter.ended c.args.taker e × Told e r)
    (λ r h. (c.in-Ok.ending, c.in-Ok.ensures.ended, h)) c.keep_or_remove.ensures.settles
