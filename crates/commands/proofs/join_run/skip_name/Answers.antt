use Rattle.std.proofs.Common.{◌∙◌, ap, refl, []}
use Rattle.commands.specs.Names.{one_more}
use Rattle.commands.proofs.JoinLemmas.{counts_more}
use Rattle.commands.proofs.join_run.skip_name.Goals as goal

pub returns-clause-goes : goal.returns-clause-goes
returns-clause-goes g c = λ F cubes s at.
    c.skip_unread.ensures.goes F cubes s []
    (counts_more g.D.Drafts.made F cubes s s.count (one_more s.count) c.args.run.now.joined.join c.args.run.now.joined.part c.args.run.now.sheet _ refl refl (c.saturating_add-run.ensures ∙ ap one_more at.counted) at)
