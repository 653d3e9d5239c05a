use Rattle.std.proofs.Common.{◌≡◌, ◌∙◌, [], List, Option, sym, subst, arith, length, take, ◌+◌}
use Rattle.std.specs.List.{All}
use Rattle.std.proofs.lemmas.List.{get_or_read}
use Rattle.std.proofs.lemmas.List.Elements.{All-push, All-get_or}
use Rattle.lrat_check.specs.declared.slot.Slot.{Slot}
use Rattle.lrat_check.specs.inner.Store.{ArePlaced, AreCopied}
use Rattle.lrat_check.specs.inner.Blocks.{joined}
use Rattle.lrat_check.proofs.BlocksLemmas.{placed-block, copied-block}
use Rattle.lrat_check.proofs.blocks.copy_blocks.Goals as goal

pub copied-requires : goal.copied-requires
copied-requires c =
    subst (ArePlaced c.args.literals.now) (sym (get_or_read c.args.blocks.now c.loop-i.i c.index-blocks-i.result c.loop-i-test.true c.index-blocks-i.is []))
    (placed-block c.args.literals.now c.args.blocks.now c.loop-i.i c.requires.placed)

pub returns-in_err-copy-clause-kept : goal.returns-in_err-copy-clause-kept
returns-in_err-copy-clause-kept c s within =
    let h = c.loop-i.invariant.kept s within in
    let g = c.copied.ensures.kept s h.0 in
    (g.0, g.1 ∙ h.1)

pub returns-in_err-push-clause-kept : goal.returns-in_err-push-clause-kept
returns-in_err-push-clause-kept c s within =
    let h = c.loop-i.invariant.kept s within in
    let g = c.copied.ensures.kept s h.0 in
    (g.0, g.1 ∙ h.1)

pub loop-i-preserved : goal.loop-i-preserved
loop-i-preserved c =
    let more = c.in_ok-push.ensures.items in
    let copy = c.in_ok-copy.copy in
    let here = c.index-blocks-i.result in
    let is = get_or_read c.args.blocks.now c.loop-i.i here c.loop-i-test.true c.index-blocks-i.is [] in
    let len : length here ≡ 1024 =
    subst (λ xs. length xs ≡ 1024) (sym is) (All-get_or (λ (xs : List (Option Slot)). length xs ≡ 1024) c.args.blocks.now c.loop-i.i [] c.loop-i-test.true c.requires.full) in
    record {
      many = omega (arith, c.in_ok-push.ensures.len, c.loop-i.invariant.many, c.loop-i.copies.ok, c.push.new.self.ok);
      full = subst (All (λ (xs : List (Option Slot)). length xs ≡ 1024)) (sym more)
          (All-push (λ (xs : List (Option Slot)). length xs ≡ 1024) c.loop-i.copies.items copy c.loop-i.invariant.full (c.in_ok-copy.ensures.copied.len ∙ len));
      copied = subst (λ bs. AreCopied c.args.literals.now (joined (take (c.loop-i.i + 1) c.args.blocks.now)) c.copied.new.out.items (joined bs)) (sym more)
          (copied-block c.args.literals.now c.loop-i.out.items c.copied.new.out.items c.args.blocks.now c.loop-i.copies.items c.loop-i.i here copy c.loop-i-test.true (sym is)
          c.copied.ensures.kept c.loop-i.invariant.copied c.in_ok-copy.ensures.copied);
      kept = λ s within. let h = c.loop-i.invariant.kept s within in let g = c.copied.ensures.kept s h.0 in (g.0, g.1 ∙ h.1);
    }
