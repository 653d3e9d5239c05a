use Rattle.std.proofs.Common.{refl, sym, subst, ◌∙◌, None, Option}
use Rattle.std.proofs.lemmas.Bool.{false≢true}
use Rattle.dimacs.specs.logic.Cnf.{Cnf}
use Rattle.lrat_check.specs.declared.verdict.Reaction.TheVariants as reaction
use Rattle.evidence.specs.Evidence.{HasWrongLength}
use Rattle.evidence.specs.declared.evidence.Evidence.{Evidence}
use Rattle.coordinator_core.specs.Coordinator.{DeliversFirstDone, ReceivesJobEvidence, with_fixed}
use Rattle.coordinator_core.specs.declared.job_state.Fixed.{Fixed}
use Rattle.coordinator_core.proofs.JobEvidenceLemmas.{lost_reopens, fixed_now, settled, unsettled}
use Rattle.coordinator_core.proofs.coordinator.Coordinator.answer_decided.Goals as goal

pub returns-then-has_wrong_length : goal.returns-then-has_wrong_length
returns-then-has_wrong_length c = λ j awaited none.
    DeliversFirstDone.wrong_length c.args.finding.now refl (subst (λ (F : Cnf). HasWrongLength F c.args.finding.now) c.formula.ensures (c.has_wrong_length.ensures.0 c.if-has_wrong_length.true)) refl
    (c.lost.ensures.step ∙ lost_reopens c.args.self.now c.args.attempt.now.worker j awaited.job)

pub check_if_complete-requires : goal.check_if_complete-requires
check_if_complete-requires c =
    let x : Fixed = record { incarnation = c.args.attempt.now.incarnation; evidence = c.new.result } in
    let r = c.requires in
    (with_fixed r.0 x, x, fixed_now c.args.self.now c.fix.new.self c.args.attempt.now.worker r.0 x r.1.deciding r.1.job (c.fix.ensures r.0 r.1.job))

pub returns-in-NoMemory : goal.returns-in-NoMemory
returns-in-NoMemory c = λ j awaited none.
    let x : Fixed = record { incarnation = c.args.attempt.now.incarnation; evidence = c.new.result } in
    DeliversFirstDone.fixes c.args.finding.now refl (λ wrong. false≢true (sym c.if-has_wrong_length.false ∙ c.has_wrong_length.ensures.1 (subst (λ (F : Cnf). HasWrongLength F c.args.finding.now) (sym c.formula.ensures) wrong)))
    (subst (λ (e : Evidence). ReceivesJobEvidence c.args.self.now c.args.attempt.now.worker j (record { incarnation = c.args.attempt.now.incarnation; evidence = e }) reaction.NoMemory c.fix-in-NoMemory.new.self) c.new.ensures
    (unsettled c.args.self.now c.fix.new.self c.check_if_complete.new.self c.fix-in-NoMemory.new.self c.args.attempt.now.worker j x c.check_if_complete.result (λ (o : Option Fixed). None) awaited.deciding awaited.job (c.fix.ensures j awaited.job) c.check_if_complete.ensures c.in-NoMemory.is c.fix-in-NoMemory.ensures (sym none)))

pub returns-in_default : goal.returns-in_default
returns-in_default c = λ j awaited none.
    let x : Fixed = record { incarnation = c.args.attempt.now.incarnation; evidence = c.new.result } in
    DeliversFirstDone.fixes c.args.finding.now refl (λ wrong. false≢true (sym c.if-has_wrong_length.false ∙ c.has_wrong_length.ensures.1 (subst (λ (F : Cnf). HasWrongLength F c.args.finding.now) (sym c.formula.ensures) wrong)))
    (subst (λ (e : Evidence). ReceivesJobEvidence c.args.self.now c.args.attempt.now.worker j (record { incarnation = c.args.attempt.now.incarnation; evidence = e }) c.check_if_complete.result c.check_if_complete.new.self) c.new.ensures
    (settled c.args.self.now c.fix.new.self c.check_if_complete.new.self c.args.attempt.now.worker j x c.check_if_complete.result awaited.deciding awaited.job (c.fix.ensures j awaited.job) c.check_if_complete.ensures c.in_default.not-NoMemory))
