use Rattle.std.proofs.Common.{◌≡◌, ◌∙◌, sym}
use Rattle.std.proofs.lemmas.Result.{IfOk-weaker}
use Rattle.commands.specs.Identity.{identity_text}
use Rattle.commands.proofs.IdentityLemmas.{told_by_front}
use Rattle.commands.proofs.identity.line_by.Goals as goal

pub returns-then-ends_with : goal.returns-then-ends_with
returns-then-ends_with c =
    let told = told_by_front c.args.note.now c.args.digest.now c.as_slice-end.result.now (c.as_slice-end.ensures.value ∙ c.in_ok-end.ensures) (sym c.ends_with.ensures.value ∙ c.if-ends_with.true) in
    IfOk-weaker c.proved_line.result _ (λ line. line.items ≡ identity_text c.args.note.now c.args.digest.now) (λ line h. h ∙ told) c.proved_line.ensures
