use Rattle.commands.proofs.WeaveLemmas.{weaves_so}
use Rattle.commands.proofs.weave.write_plan.Goals as goal

pub returns-in_ok-report-in-Ok-clause-weaves : goal.returns-in_ok-report-in-Ok-clause-weaves
returns-in_ok-report-in-Ok-clause-weaves g c = λ are.
    let s = c.args.searched.now in
    weaves_so g.D.Drafts.made g.D.Drafts.kept c.args.disk.now c.keep_or_remove.new.disk c.args.log.binary c.args.log.path.now s.formula.now s.tree.now s.is_split
    c.in_ok-part.part c.weave_plan.new.part c.in-Ok.ending c.in_ok-report-in-Ok.report c.in_ok-part.ensures.begins (c.in-Ok.ensures are) c.in_ok-report-in-Ok.ensures.settles
