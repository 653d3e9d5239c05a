use Rattle.std.proofs.Common.{List, Option, ℕ, Result, Ok, Err, OnOk, inr, refl, subst}
use Rattle.commands.specs.Cover.{without_text}
use Rattle.commands.specs.declared.small_file.SmallText.{SmallText}
use Rattle.commands.specs.inner.Cover.{IsText}
use Rattle.commands.proofs.CoverLemmas.{takes_long, took_whole}
use Rattle.commands.proofs.cover_receipts.take_file.Goals as goal
use Rattle.leaves.specs.declared.notes.Note.TheVariants as noted

on_ok_so : {T E : Type 0} (r : Result T E) (P Q : Type 0) → (P → Q) → OnOk r P → OnOk r Q
on_ok_so (Ok x) P Q f h = f h
on_ok_so (Err e) P Q f h = tt

pub returns-in-Whole-clause-taken : goal.returns-in-Whole-clause-taken
returns-in-Whole-clause-taken g c =
    let known = g.D.Disk.holds c.args.disk.now c.args.name.now in
    let Reads : SmallText → Type 0 = IsText known in
    on_ok_so c.take_text.result _ _ (λ took F cubes s at.
    took_whole F cubes c.args.quiet known c.args.name.now c.deref.result.now c.in-Whole.text s c.take_text.new.run c.deref.ensures.value (subst Reads c.in-Whole.is c.in_ok-read.ensures.reads) (took F cubes s at))
    c.take_text.ensures.taken

pub returns-in-TooLong-clause-taken : goal.returns-in-TooLong-clause-taken
returns-in-TooLong-clause-taken g c =
    let known = g.D.Disk.holds c.args.disk.now c.args.name.now in
    let Reads : SmallText → Type 0 = IsText known in
    on_ok_so c.skip_file.result _ _ (λ passed F cubes s at.
    (without_text noted.TooLong c.args.name.now s, takes_long F cubes c.args.quiet known c.args.name.now s (subst Reads c.in-TooLong.is c.in_ok-read.ensures.reads), passed F cubes s at))
    c.skip_file.ensures.passed

pub returns-in-Unread-clause-taken : goal.returns-in-Unread-clause-taken
returns-in-Unread-clause-taken g c =
    on_ok_so c.skip_file-in-Unread.result _ _ (λ passed F cubes s at. (without_text noted.Unread c.args.name.now s, inr refl, passed F cubes s at)) c.skip_file-in-Unread.ensures.passed
