use Rattle.std.proofs.Common.{sym, ◌∙◌, ap, ◌≡◌}
use Rattle.lrat_forms.specs.declared.text_form.Stage.TheVariants.{Binary}
use Rattle.lrat_forms.specs.declared.text_form.Stage.{Stage}
use Rattle.lrat_forms.proofs.FormLemmas.{binary_left, left_at, other_left, whole_text}
use Rattle.lrat_forms.proofs.text_form.TextForm.rest.Goals as goal

pub returns-in-Binary : goal.returns-in-Binary
returns-in-Binary c = λ most bytes text h uncut.
    let f = c.args.self.now in
    whole_text most f.stage f.reader f.writer.top bytes text c.ended.result.now
    (c.ended.ensures ∙ sym (binary_left f.reader f.writer.top c.finish.result c.finish.ensures) ∙ ap (λ (s : Stage). left_at s f.reader f.writer.top) (sym c.in-Binary.is)) h uncut

pub returns-in_default : goal.returns-in_default
returns-in_default c = λ most bytes text h uncut.
    let f = c.args.self.now in
    whole_text most f.stage f.reader f.writer.top bytes text _ (sym (other_left f.stage f.reader f.writer.top c.in_default.not-Binary)) h uncut
