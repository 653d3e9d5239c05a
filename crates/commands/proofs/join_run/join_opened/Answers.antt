use Rattle.std.proofs.Common.{◌≡◌, [], ℕ, List}
use Rattle.std.proofs.lemmas.Result.{IfOk-weaker}
use Rattle.commands.specs.Known.{HoldsOf}
use Rattle.commands.specs.Join.{AnswersBy, ReadsFile, without_file}
use Rattle.commands.specs.Names.{Gone, one_more}
use Rattle.commands.specs.inner.Join.{Goes, HasJoinedOn, IsAt, TakesSome}
use Rattle.commands.proofs.JoinLemmas.{fed_at, fed_some, fed_whole, skipped_some, some_goes}
use Rattle.commands.proofs.OfLemmas.{of_ok}
use Rattle.commands.proofs.join_run.join_opened.Goals as goal
use Rattle.reports.specs.declared.report.Report.{Report}

pub returns-in-Whole-clause-goes : goal.returns-in-Whole-clause-goes
returns-in-Whole-clause-goes g c = λ F cubes s at.
    let made = g.D.Drafts.made in
    let a = c.args.run.now in
    let b = c.feed_on.new.taker in
    let new = c.end_named_file.new.run in
    let o = a.sheet.options in
    let name = c.args.name.now in
    let left = g.D.Source.Read.remaining c.args.pieces.source in
    let At : Gone → Type 0 = λ t. IsAt made F cubes t [] t.count new.joined.join new.joined.part new.sheet in
    let Took : List ℕ → Type 0 = HasJoinedOn made a.joined.disk b.disk a.joined.join b.join a.joined.part b.part in
    let found = of_ok Took (λ bytes. Goes At (ReadsFile F cubes o.quiet name bytes s) (AnswersBy F cubes o.witness bytes s)) left c.end_named_file.result
    (fed_whole a.joined b (λ x y bytes. HasJoinedOn made x.disk y.disk x.join y.join x.part y.part bytes) left c.in_ok-feed_on.field-0 c.in-Whole.is c.in_ok-feed_on.ensures.fed)
    (λ bytes took. c.end_named_file.ensures.goes F cubes s bytes (fed_at made F cubes s (one_more s.count) bytes a.joined.disk b.disk a.joined.join b.join a.joined.part b.part a.sheet took at)) in
    IfOk-weaker c.end_named_file.result (λ found. HoldsOf left (λ bytes. Goes At (ReadsFile F cubes o.quiet name bytes s) (AnswersBy F cubes o.witness bytes s) found))
    (Goes At (TakesSome F cubes o.quiet left name s) (λ r. HoldsOf left (λ bytes. AnswersBy F cubes o.witness bytes s r)))
    (λ found h. some_goes At F cubes o.quiet o.witness left name s found h) found

pub returns-clause-goes : goal.returns-clause-goes
returns-clause-goes g c = λ F cubes s at.
    let made = g.D.Drafts.made in
    let a = c.args.run.now in
    let b = c.feed_on.new.taker in
    let new = c.skip_unread.new.run in
    let o = a.sheet.options in
    let name = c.args.name.now in
    let left = g.D.Source.Read.remaining c.args.pieces.source in
    let At : Gone → Type 0 = λ t. IsAt made F cubes t [] t.count new.joined.join new.joined.part new.sheet in
    let Answers : Report → Type 0 = λ r. HoldsOf left (λ bytes. AnswersBy F cubes o.witness bytes s r) in
    let fed = fed_some a.joined b (λ x y bytes. HasJoinedOn made x.disk y.disk x.join y.join x.part y.part bytes) left c.in_ok-feed_on.field-0 c.in-Unread.refusal c.in-Unread.is c.in_ok-feed_on.ensures.fed in
    IfOk-weaker c.skip_unread.result (Goes At (λ t. t ≡ without_file name s) (λ r. ⊥)) (Goes At (TakesSome F cubes o.quiet left name s) Answers)
    (λ found h. skipped_some At F cubes o.quiet left name s Answers found h)
    (c.skip_unread.ensures.goes F cubes s fed.0 (fed_at made F cubes s (one_more s.count) fed.0 a.joined.disk b.disk a.joined.join b.join a.joined.part b.part a.sheet fed.1 at))
