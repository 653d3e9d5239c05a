-- The report of both texts.
use Rattle.std.proofs.Common.{◌≡◌, inl, inr, ℕ, List, ◌++◌, Option, Some, None, Result, Ok, Err, IfOk, IfErr, refl, sym, ap, subst, arith}
use Rattle.dimacs.specs.logic.Limits.{Limits}
use Rattle.icnf.specs.declared.fault.IcnfFault.{IcnfFault}
use Rattle.lrat_check.specs.declared.line_checker.CheckFault.{CheckFault}
use Rattle.reports.specs.declared.refusal.Refusal.{Refusal}
use Rattle.reports.specs.declared.report.Report.{Report}
use Rattle.sessions.specs.Answers.{Event, tally}
use Rattle.sessions.specs.Check.{Finishes, HasOutcome, OfTexts}
use Rattle.sessions.specs.Events.{events_within}
use Rattle.sessions.specs.Reports.{AnswersRight, ChecksSession, HasNoReport, IsReport, IsVerdict, Reports}
use Rattle.sessions.specs.Texts.{session_within}
use Rattle.sessions.specs.declared.check.SessionCheck.{SessionCheck}
use Rattle.sessions.specs.declared.check.SessionFault.{SessionFault}
use Rattle.sessions.specs.declared.check.SessionFault.TheVariants as fault
use Rattle.sessions.specs.declared.tally.Tally.{Tally}
use Rattle.sessions.proofs.SoundLemmas.{all_answered, fronts_right}
use Rattle.sessions.proofs.SpellingLemmas.{read_is_spelled}

module _ (L : Limits) (events proof : List ℕ) (r : Report) where
  of_outcome : (f : Option CheckFault) (counts : Tally) → HasOutcome L f counts events proof → IsVerdict f counts r → IsReport L (events_within L events) proof r
  of_outcome f counts h v =
      subst (λ (o : Result (List Event) IcnfFault). IsReport L o proof r) (sym h.1)
      (subst (λ (g : Option CheckFault). IsVerdict g (tally (session_within L h.0 proof).answers) r) (sym h.2) (subst (λ (t : Tally). IsVerdict f t r) h.3 v))

  no_status : r.status ≡ 1 → r.status ≡ 0 → ⊥
  no_status one zero = absurd (omega arith)

  verdict_truth : (E : List Event) → events_within L events ≡ Ok E → (g : Option CheckFault) → (session_within L E proof).fault ≡ g → IsVerdict g (tally (session_within L E proof).answers) r → r.status ≡ 0
      → AnswersRight L events r
  verdict_truth E is None none v zero = (E, read_is_spelled L events E is, ((session_within L E proof).answers, (fronts_right L E proof, all_answered L E proof none, v.0)))
  verdict_truth E is (Some f) some v zero = absurd (no_status v.1 zero)

  report_truth : (o : Result (List Event) IcnfFault) → events_within L events ≡ o → IsReport L o proof r → r.status ≡ 0 → AnswersRight L events r
  report_truth (Ok E) is v zero = verdict_truth E is (session_within L E proof).fault refl v zero
  report_truth (Err f) is v zero = absurd (no_status v.1 zero)

  checks : IsReport L (events_within L events) proof r → ChecksSession L events proof r
  checks h = record { report = h; truth = report_truth (events_within L events) refl h }

pub reports_texts : (L : Limits) (e p : List ℕ) (x : SessionCheck) (answer : Result Tally SessionFault) (r : Result Report Refusal)
    → Finishes L e p x answer → Reports answer r → OfTexts e p x (λ events proof. IfOk r (ChecksSession L events proof))
reports_texts L e p x (Ok counts) (Ok r) h told = λ d b ends rest. checks L (e ++ d) (p ++ b) r (of_outcome L (e ++ d) (p ++ b) r None counts (h d b ends rest) told)
reports_texts L e p x (Err (fault.Events f)) (Ok r) (inl none) told = absurd (told.1 (ap (λ (g : IcnfFault). g.kind) none))
reports_texts L e p x (Err (fault.Events f)) (Ok r) (inr fails) told = λ d b ends rest.
    checks L (e ++ d) (p ++ b) r (subst (λ (o : Result (List Event) IcnfFault). IsReport L o (p ++ b) r) (sym (fails d b ends rest)) told.0)
reports_texts L e p x (Err (fault.Proof f before)) (Ok r) (inl none) told = absurd (told.1 none)
reports_texts L e p x (Err (fault.Proof f before)) (Ok r) (inr out) told = λ d b ends rest.
    checks L (e ++ d) (p ++ b) r (of_outcome L (e ++ d) (p ++ b) r (Some f) before (out d b ends rest) told.0)
reports_texts L e p x (Err fault.Unfinished) (Ok r) h told = absurd cc
reports_texts L e p x answer (Err f) h told = λ d b ends rest. tt

pub no_report : (L : Limits) (e p : List ℕ) (x : SessionCheck) (answer : Result Tally SessionFault) (r : Result Report Refusal)
    → Finishes L e p x answer → Reports answer r → IfErr r (HasNoReport x)
no_report L e p x answer (Ok r) h told = tt
no_report L e p x (Ok counts) (Err f) h told = inl told
no_report L e p x (Err (fault.Events g)) (Err f) h told = inl told.0
no_report L e p x (Err (fault.Proof g before)) (Err f) h told = inl told.0
no_report L e p x (Err fault.Unfinished) (Err f) h told = inr (cc, h)
