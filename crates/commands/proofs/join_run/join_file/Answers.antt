use Rattle.std.proofs.Common.{◌≡◌, ◌∙◌, ap, refl, subst, [], ℕ, List}
use Rattle.std.specs.Prelude.{IfOk}
use Rattle.std.proofs.lemmas.Result.{IfOk-weaker}
use Rattle.commands.specs.Known.{HoldsOf}
use Rattle.commands.specs.Join.{AnswersBy, IsFree, Stops, Takes, without_file}
use Rattle.commands.specs.Names.{Gone, one_more}
use Rattle.commands.specs.inner.Join.{Goes, IsAt, TakesSome}
use Rattle.commands.proofs.JoinLemmas.{counts_more, skipped_file, take_goes}
use Rattle.commands.proofs.join_run.join_file.Goals as goal

pub returns-in-Ok-clause-goes : goal.returns-in-Ok-clause-goes
returns-in-Ok-clause-goes g c = λ F cubes s at.
    let made = g.D.Drafts.made in
    let a = c.args.run.now in
    let disk = a.joined.disk.now in
    let new = c.join_opened.new.run in
    let o = a.sheet.options in
    let name = c.args.name.now in
    let left = g.D.Source.Read.remaining c.in-Ok.pieces.source in
    let At : Gone → Type 0 = λ t. IsAt made F cubes t [] t.count new.joined.join new.joined.part new.sheet in
    let Told : List ℕ → Type 0 = λ path. IfOk c.join_opened.result (Goes At (TakesSome F cubes o.quiet left path s) (λ r. HoldsOf left (λ bytes. AnswersBy F cubes o.witness bytes s r))) in
    let counted = counts_more made F cubes s s.count (one_more s.count) a.joined.join a.joined.part a.sheet _ refl refl (c.saturating_add-run.ensures ∙ ap one_more at.counted) at in
    IfOk-weaker c.join_opened.result (Goes At (TakesSome F cubes o.quiet left name s) (λ r. HoldsOf left (λ bytes. AnswersBy F cubes o.witness bytes s r)))
    (Goes At (Takes g.D.Disk.holds g.D.Drafts.apart disk o F cubes name s) (Stops g.D.Disk.holds g.D.Drafts.apart disk o F cubes name s))
    (λ found h. take_goes At F cubes o.quiet o.witness (IsFree (g.D.Drafts.apart disk) o.proof name) left (g.D.Disk.holds disk name) name s found (c.is_own.ensures c.if-is_own.false) c.in-Ok.ensures.bytes h)
    (subst Told c.as_bytes.ensures.value (c.join_opened.ensures.goes F cubes s counted))

pub returns-in-Err-clause-goes : goal.returns-in-Err-clause-goes
returns-in-Err-clause-goes g c = λ F cubes s at.
    let made = g.D.Drafts.made in
    let a = c.args.run.now in
    let disk = a.joined.disk.now in
    let new = c.skip_unread.new.run in
    let o = a.sheet.options in
    let name = c.args.name.now in
    let At : Gone → Type 0 = λ t. IsAt made F cubes t [] t.count new.joined.join new.joined.part new.sheet in
    let Told : List ℕ → Type 0 = λ path. IfOk c.skip_unread.result (Goes At (λ t. t ≡ without_file path s) (λ r. ⊥)) in
    let counted = counts_more made F cubes s s.count (one_more s.count) a.joined.join a.joined.part a.sheet _ refl refl (c.saturating_add-run.ensures ∙ ap one_more at.counted) at in
    IfOk-weaker c.skip_unread.result (Goes At (λ t. t ≡ without_file name s) (λ r. ⊥))
    (Goes At (Takes g.D.Disk.holds g.D.Drafts.apart disk o F cubes name s) (Stops g.D.Disk.holds g.D.Drafts.apart disk o F cubes name s))
    (λ found h. skipped_file At F cubes o.quiet (IsFree (g.D.Drafts.apart disk) o.proof name) (g.D.Disk.holds disk name) name s _ found h)
    (subst Told c.as_bytes-in-Err.ensures.value (c.skip_unread.ensures.goes F cubes s [] counted))
