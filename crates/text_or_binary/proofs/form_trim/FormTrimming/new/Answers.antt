use Rattle.std.proofs.Common.{ℕ, [], subst}
use Rattle.lrat_forms.specs.Pieces.{HasGivenWithin}
use Rattle.text_or_binary.proofs.form_trim.FormTrimming.new.Goals as goal

pub returns : goal.returns
returns c = record {
  text = [];
  given = subst (λ (n : ℕ). HasGivenWithin n c.within.result [] []) c.proof_top-most.ensures.value c.within.ensures;
  taken = c.in_ok-new.ensures;
}
