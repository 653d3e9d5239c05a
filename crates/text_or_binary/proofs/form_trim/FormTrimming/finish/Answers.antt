use Rattle.std.proofs.Common.{◌≡◌, ◌∙◌, false, sym}
use Rattle.lrat_forms.specs.Forms.{text_form_within}
use Rattle.lrat_forms.specs.Pieces.{is_cut}
use Rattle.lrat_text.specs.Proof.{proof_top}
use Rattle.text_or_binary.proofs.FormLemmas.{trim_ended}
use Rattle.text_or_binary.proofs.form_trim.FormTrimming.finish.Goals as goal

pub returns-clause-trims : goal.returns-clause-trims
returns-clause-trims c =
    let uncut : is_cut c.args.self.form.stage ≡ false = sym c.is_cut.ensures ∙ c.if-is_cut.false in
    λ F proof h. c.finish.ensures F (text_form_within (proof_top F) proof) (trim_ended c.args.self c.rest.result.now c.feed.new.self c.rest.ensures uncut c.feed.ensures.taken F proof h)
