use Rattle.std.proofs.Common.{[]}
use Rattle.std.proofs.lemmas.Result.{IfOk-weaker}
use Rattle.commands.specs.Join.{AnswersBy, ReadsFile}
use Rattle.commands.specs.inner.Join.{Goes, IsAt, Tells}
use Rattle.commands.proofs.JoinLemmas.{file_goes}
use Rattle.commands.proofs.join_run.end_named_file.Goals as goal

pub returns-clause-goes : goal.returns-clause-goes
returns-clause-goes g c = λ F cubes s bytes at.
    let made = g.D.Drafts.made in
    let old = c.args.run.now in
    let mid = c.end_file.new.joined in
    let sheet = c.tell_outcome.new.sheet in
    let name = c.args.name.now in
    let e = c.in_ok-ended.ended in
    IfOk-weaker c.tell_outcome.result (Tells old.sheet sheet.notes.items e name)
    (Goes (λ t. IsAt made F cubes t [] t.count mid.join mid.part sheet) (ReadsFile F cubes old.sheet.options.quiet name bytes s) (AnswersBy F cubes old.sheet.options.witness bytes s))
    (λ found tells. file_goes made F cubes s bytes name old.joined.join mid.join old.joined.part mid.part old.sheet sheet e found c.in_ok-ended.ensures.ends tells c.tell_outcome.ensures.same at) c.tell_outcome.ensures.tells
