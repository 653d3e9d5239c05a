use Rattle.lrat_text.specs.Proof.{proof_top}
use Rattle.text_or_binary.proofs.form_trim.FormTrimming.is_binary.Goals as goal

pub returns : goal.returns
returns c = λ F bytes h uncut. c.is_binary.ensures (proof_top F) bytes h.text h.given uncut
