use Rattle.std.proofs.Common.{ℕ, List, refl, ◌∙◌, subst}
use Rattle.commands.specs.Receipts.{receipts}
use Rattle.commands.specs.declared.receipt.Received.{Received}
use Rattle.commands.specs.inner.Receipts.{ComesTo}
use Rattle.commands.proofs.ReceiptLemmas.{refused_tells}
use Rattle.commands.proofs.receipt.write_receipt.Goals as goal

pub returns-in_ok-keep_text-in-Told-clause-tells : goal.returns-in_ok-keep_text-in-Told-clause-tells
returns-in_ok-keep_text-in-Told-clause-tells g c = λ F cubes log h.
    let Comes : Received → Type 0 = ComesTo F cubes log in
    let told = subst Comes c.in-Told.is h in
    receipts told.0 told.1
    (subst (λ (xs : List ℕ). g.D.Drafts.kept c.args.disk.now c.keep_text.new.disk c.args.path.now xs) (c.deref.ensures.value ∙ told.2) c.in_ok-keep_text-in-Told.ensures.kept)
    told.3

pub returns-in-Refused-clause-tells : goal.returns-in-Refused-clause-tells
returns-in-Refused-clause-tells g c = λ F cubes log h.
    let Comes : Received → Type 0 = ComesTo F cubes log in
    refused_tells _ _ F cubes log c.in-Refused.report (subst Comes c.in-Refused.is h) refl
