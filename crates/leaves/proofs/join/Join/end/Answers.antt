use Rattle.std.proofs.Common.{sym, refl, ◌∙◌}
use Rattle.leaves.proofs.LineLemmas.{if_if, on_if, on_ok}
use Rattle.leaves.proofs.JoinLemmas.{end_answer, end_faulty, end_nothing, end_refused, end_right, tell_answer, tell_faulty, tell_nothing, tell_refused, tell_right}
use Rattle.leaves.proofs.join.Join.end.Goals as goal

pub returns-in-Begun-clause-holds : goal.returns-in-Begun-clause-holds
returns-in-Begun-clause-holds c = λ F cubes files bytes written h.
    end_nothing c.args.self.now F cubes files bytes written h (sym c.replace-reading.ensures.value ∙ c.in-Begun.is) _
    (record { formula = refl; reading = c.replace-reading.ensures.after; begun = c.replace-begun.ensures.after ∙ c.new.ensures }) refl

pub returns-in-Begun-clause-tells : goal.returns-in-Begun-clause-tells
returns-in-Begun-clause-tells c = λ F cubes files bytes written h.
    tell_nothing c.args.self.now F cubes files bytes written h (sym c.replace-reading.ensures.value ∙ c.in-Begun.is)

pub returns-in-Ok-clause-holds : goal.returns-in-Ok-clause-holds
returns-in-Ok-clause-holds c = on_if c.accept.result _ _ (λ e right F cubes files bytes written h.
    end_right c.args.self.now F cubes files bytes written h (sym c.replace-reading.ensures.value ∙ c.in-Log.is) c.as_slice.result.now (c.as_slice.ensures.value ∙ c.replace-begun.ensures.value)
    (rw c.as_slice.ensures.value c.as_slice.ensures.open) c.in-Ok.ensures _ e
    (record { formula = refl; reading = c.replace-reading.ensures.after; begun = c.replace-begun.ensures.after ∙ c.new.ensures }) right) c.accept.ensures

pub returns-in-Ok-clause-tells : goal.returns-in-Ok-clause-tells
returns-in-Ok-clause-tells c = if_if c.accept.result _ _ (λ e right F cubes files bytes written h.
    tell_right c.args.self.now F cubes files bytes written h (sym c.replace-reading.ensures.value ∙ c.in-Log.is) c.as_slice.result.now (c.as_slice.ensures.value ∙ c.replace-begun.ensures.value)
    (rw c.as_slice.ensures.value c.as_slice.ensures.open) c.in-Ok.ensures c.accept.new.lines e right) c.accept.ensures

pub returns-in-Log-clause-holds : goal.returns-in-Log-clause-holds
returns-in-Log-clause-holds c = on_ok c.refuse.result _ _ (λ leaves F cubes files bytes written h.
    end_faulty c.args.self.now F cubes files bytes written h (sym c.replace-reading.ensures.value ∙ c.in-Log.is) c.as_slice.result.now (c.as_slice.ensures.value ∙ c.replace-begun.ensures.value)
    (rw c.as_slice.ensures.value c.as_slice.ensures.open) c.in-Err.fault c.in-Err.ensures _
    (record { formula = refl; reading = c.replace-reading.ensures.after; begun = c.replace-begun.ensures.after ∙ c.new.ensures }) leaves) c.refuse.ensures.stands

pub returns-in-Log-clause-tells : goal.returns-in-Log-clause-tells
returns-in-Log-clause-tells c = if_if c.refuse.result _ _ (λ e told F cubes files bytes written h.
    tell_faulty c.args.self.now F cubes files bytes written h (sym c.replace-reading.ensures.value ∙ c.in-Log.is) c.as_slice.result.now (c.as_slice.ensures.value ∙ c.replace-begun.ensures.value)
    (rw c.as_slice.ensures.value c.as_slice.ensures.open) c.in-Err.fault c.in-Err.ensures e told) c.refuse.ensures.told

pub returns-in-Refused-clause-holds : goal.returns-in-Refused-clause-holds
returns-in-Refused-clause-holds c = on_ok c.refuse-in-Refused.result _ _ (λ leaves F cubes files bytes written h.
    end_refused c.args.self.now F cubes files bytes written h c.in-Refused.fault (sym c.replace-reading.ensures.value ∙ c.in-Refused.is) _
    (record { formula = refl; reading = c.replace-reading.ensures.after; begun = c.replace-begun.ensures.after ∙ c.new.ensures }) leaves) c.refuse-in-Refused.ensures.stands

pub returns-in-Refused-clause-tells : goal.returns-in-Refused-clause-tells
returns-in-Refused-clause-tells c = if_if c.refuse-in-Refused.result _ _ (λ e told F cubes files bytes written h.
    tell_refused c.args.self.now F cubes files bytes written h c.in-Refused.fault (sym c.replace-reading.ensures.value ∙ c.in-Refused.is) e told) c.refuse-in-Refused.ensures.told

pub returns-clause-holds : goal.returns-clause-holds
returns-clause-holds c = on_if c.answered.result _ _ (λ e told F cubes files bytes written h.
    end_answer c.args.self.now F cubes files bytes written h c.in-Answer.reader (sym c.replace-reading.ensures.value ∙ c.in-Answer.is) _
    (record { formula = refl; reading = c.replace-reading.ensures.after; begun = c.replace-begun.ensures.after ∙ c.new.ensures }) refl) c.answered.ensures

pub returns-clause-tells : goal.returns-clause-tells
returns-clause-tells c = if_if c.answered.result _ _ (λ e told F cubes files bytes written h.
    tell_answer c.args.self.now F cubes files bytes written h c.in-Answer.reader (sym c.replace-reading.ensures.value ∙ c.in-Answer.is) e told) c.answered.ensures
