use Rattle.std.proofs.Common.{refl, sym, ◌∙◌}
use Rattle.leaves.proofs.LineLemmas.{on_ok}
use Rattle.leaves.proofs.JoinLemmas.{keeps_by, leave_answer, leave_log, leave_nothing, leave_refused}
use Rattle.leaves.proofs.join.Join.abandon.Goals as goal
use Rattle.leaves.proofs.join.Join.abandon.Goals.{in-Begun, in-Log, in-Refused, in-Answer}

pub returns : goal.returns
returns c =
    let old = c.args.self.now in
    record {
      holds = elim c.match-reading.branch [
        | in-Begun w ↦ keeps_by _ _ _ _ old w.result-is w.self-is (λ F cubes files bytes written h.
            leave_nothing old F cubes files bytes written h (sym c.replace-reading.ensures.value ∙ w.in-Begun.is) _ (record { formula = refl; reading = c.replace-reading.ensures.after; begun = c.new.ensures }) refl)
        | in-Log w ↦ keeps_by _ _ _ _ old w.result-is w.self-is (on_ok w.leave.result _ _ (λ leaves F cubes files bytes written h.
            leave_log old F cubes files bytes written h (sym c.replace-reading.ensures.value ∙ w.in-Log.is) _ (record { formula = refl; reading = c.replace-reading.ensures.after; begun = c.new.ensures }) leaves) w.leave.ensures)
        | in-Refused w ↦ keeps_by _ _ _ _ old w.result-is w.self-is (on_ok w.leave-in-Refused.result _ _ (λ leaves F cubes files bytes written h.
            leave_refused old F cubes files bytes written h w.in-Refused.field-0 (sym c.replace-reading.ensures.value ∙ w.in-Refused.is) _ (record { formula = refl; reading = c.replace-reading.ensures.after; begun = c.new.ensures }) leaves) w.leave-in-Refused.ensures)
        | in-Answer w ↦ keeps_by _ _ _ _ old w.result-is w.self-is (λ F cubes files bytes written h.
            leave_answer old F cubes files bytes written h w.in-Answer.field-0 (sym c.replace-reading.ensures.value ∙ w.in-Answer.is) _ (record { formula = refl; reading = c.replace-reading.ensures.after; begun = c.new.ensures }) refl)
      ];
    }
