use Rattle.std.proofs.Common.{map}
use Rattle.lrat_forms.specs.Forms.{text_form_within}
use Rattle.lrat_text.specs.Log.{log_top}
use Rattle.text_or_binary.proofs.form_join.FormJoin.forget.Goals as goal

pub returns-clause-holds : goal.returns-clause-holds
returns-clause-holds c = λ F cubes files bytes written h. record { text = h.text; given = h.given; holds = c.forget.ensures.holds F cubes (map (text_form_within (log_top F)) files) h.text written h.holds }
