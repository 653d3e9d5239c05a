use Rattle.std.proofs.Common.{[], Option, List, ℕ, sym, ap, ◌∙◌, subst}
use Rattle.std.proofs.lemmas.Result.{on_ok_weaker}
use Rattle.commands.specs.declared.part_file.Part.{Part}
use Rattle.commands.specs.inner.FoundProof.{HasText}
use Rattle.commands.proofs.found_proof.begin.Goals as goal

pub returns-clause-begun : goal.returns-clause-begun
returns-clause-begun g c =
    let target = c.args.target in
    let made = g.D.Drafts.made in
    let P : Option (Part _) → Type 0 = λ p. HasText made target [] p c.replace-held.new.dest.text in
    let Q : List ℕ → Type 0 = λ t. HasText made target t c.put.new.proof.part c.put.new.proof.held.text in
    let is = c.into_text.ensures ∙ ap (λ k. k.text) c.replace-held.ensures.value in
    let begins = subst P (sym c.replace-before.ensures.after) c.in_ok-part.ensures.begins in
    on_ok_weaker c.put.result (λ written. subst Q is (written target [] begins)) c.put.ensures.written
