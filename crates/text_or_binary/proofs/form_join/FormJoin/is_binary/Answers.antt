use Rattle.lrat_text.specs.Log.{log_top}
use Rattle.text_or_binary.proofs.form_join.FormJoin.is_binary.Goals as goal

pub returns : goal.returns
returns c = λ F cubes files bytes written h uncut. c.is_binary.ensures (log_top F) bytes h.text h.given uncut
