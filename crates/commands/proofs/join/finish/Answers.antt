use Rattle.std.proofs.Common.{◌∙◌}
use Rattle.commands.proofs.JoinLemmas.{concludes_so}
use Rattle.commands.proofs.KnownLemmas.{if_ok_before}
use Rattle.commands.proofs.join.finish.Goals as goal

pub returns-clause-ends : goal.returns-clause-ends
returns-clause-ends g c = λ F cubes s at.
    let old = c.args.run.now in
    let j = c.finish.new.self.join in
    let r = c.in_ok-report.report in
    let copied = if_ok_before c.from_slice.result c.map_err.result c.in_ok-notes.notes _ _ c.map_err.ensures.cases c.in_ok-notes.was c.from_slice.ensures.items in
    let concludes = if_ok_before c.finish.result c.map_err-2.result r _ _ c.map_err-2.ensures.cases c.in_ok-report.was c.finish.ensures in
    concludes_so g.D.Drafts.made old.sheet.options.proof F cubes s at.stands.written c.in_ok-notes.notes.items j c.write.new.joined.part r
    (copied ∙ c.deref.ensures.value ∙ at.noted) (concludes F cubes s.files at.stands.written at.stands.holds) (c.in_ok-write.ensures.part old.sheet.options.proof at.stands.written at.stands.part_is)
