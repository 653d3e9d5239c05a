-- What is printed of a check of a session.
use Rattle.std.specs.Prelude.{◌≡◌, ◌≢◌, ◌⊎◌, ℕ, ◌+◌, List, [], ◌++◌, Option, Some, None, Result, Ok, Err, OnOk, codes, decimal, length}
use Rattle.dimacs.specs.logic.Limits.{Limits}
use Rattle.icnf.specs.Faults.{number_of_kind}
use Rattle.icnf.specs.declared.fault.IcnfFault.{IcnfFault}
use Rattle.icnf.specs.declared.fault.Kind.TheVariants as kind
use Rattle.lrat_check.specs.ProofFaults.{no_memory}
use Rattle.lrat_check.specs.declared.line_checker.CheckFault.{CheckFault}
use Rattle.reports.specs.Faults.{fault_text}
use Rattle.reports.specs.declared.refusal.Refusal.{Refusal}
use Rattle.reports.specs.declared.refusal.Refusal.TheVariants as refusal
use Rattle.reports.specs.declared.report.Report.{Report}
use Rattle.sessions.specs.Answers.{Answer, AreRight, Event, queries, tally}
use Rattle.sessions.specs.Check.{wanted}
use Rattle.sessions.specs.Events.{SpellsWithin, events_within}
use Rattle.sessions.specs.Texts.{session_within}
use Rattle.sessions.specs.declared.check.SessionCheck.{SessionCheck}
use Rattle.sessions.specs.declared.check.SessionFault.{SessionFault}
use Rattle.sessions.specs.declared.check.SessionFault.TheVariants as fault
use Rattle.sessions.specs.declared.check.Wants.TheVariants as wants
use Rattle.sessions.specs.declared.tally.Tally.{Tally}

-- how many answers there are
abbrev pub total : Tally → ℕ
total t = t.satisfied + t.failed + t.unknown

-- a number, and then words
abbrev pub count_text : ℕ → List ℕ → List ℕ
count_text n words = decimal n ++ words

-- after `s VERIFIED` and `c `: how many answers there are of each kind
abbrev pub verified_tail : Tally → List ℕ
verified_tail t =
    count_text (total t) (codes " queries: ") ++ count_text t.satisfied (codes " satisfiable, ") ++ count_text t.failed (codes " unsatisfiable, ")
    ++ count_text t.unknown (codes " unknown\n")

-- after `s NOT VERIFIED` and `c `: where the proof's fault is, and how many answers stand before it
abbrev pub refused_tail : CheckFault → Tally → List ℕ
refused_tail f before = fault_text f.line f.number ++ codes "c " ++ count_text (total before) (codes " queries before\n")

-- what is printed of a session that is verified
abbrev pub verified_text : Tally → List ℕ
verified_text t = codes "s VERIFIED\nc " ++ verified_tail t

-- what is printed of a proof that has this first fault, after these answers
abbrev pub refused_text : CheckFault → Tally → List ℕ
refused_text f before = codes "s NOT VERIFIED\nc " ++ refused_tail f before

-- what is printed of events that have this first fault
abbrev pub events_text : IcnfFault → List ℕ
events_text f = codes "c input " ++ fault_text f.line (number_of_kind f.kind)

-- text, status, the answer: a report with this text and this status, and without a proof; or memory was refused
abbrev pub Printed : List ℕ → ℕ → Result Report Refusal → Type 0
Printed text status (Ok r) = (r.stdout.items ≡ text) × (r.status ≡ status) × (r.proof ≡ None)
Printed text status (Err f) = f ≡ refusal.NoMemory

-- fault, the answer: the report of the fault. There is none if memory was refused, or if an input was still wanted
abbrev pub ReportsFault : SessionFault → Result Report Refusal → Type 0
ReportsFault (fault.Events f) r = Printed (events_text f) 1 r × OnOk r (f.kind ≢ kind.NoMemory)
ReportsFault (fault.Proof f before) r = Printed (refused_text f before) 1 r × OnOk r (f ≢ no_memory)
ReportsFault fault.Unfinished r = r ≡ Err refusal.Proof

-- answer of `finish`, the report: what is printed of this answer
abbrev pub Reports : Result Tally SessionFault → Result Report Refusal → Type 0
Reports (Ok t) r = Printed (verified_text t) 0 r
Reports (Err f) r = ReportsFault f r

-- ---- the report of both texts
-- fault, counts, report: the report of a proof with this first fault, or with none, after answers of these counts
abbrev pub IsVerdict : Option CheckFault → Tally → Report → Type 0
IsVerdict None counts r = Printed (verified_text counts) 0 (Ok r)
IsVerdict (Some f) before r = Printed (refused_text f before) 1 (Ok r)

-- limits, events or their fault, text of the proof, report: the report of the proof beside these events; or of the first fault of the
-- events, which is printed before any fault of the proof
abbrev pub IsReport : Limits → Result (List Event) IcnfFault → List ℕ → Report → Type 0
IsReport L (Ok E) proof r = IsVerdict (session_within L E proof).fault (tally (session_within L E proof).answers) r
IsReport L (Err f) proof r = Printed (events_text f) 1 (Ok r)

-- events, answers, report: each query of the events has one of the answers, which is right for the clauses that are given before the query;
-- and the report says how many answers are of each kind
abbrev pub AreAnswered : List Event → List Answer → Report → Type 0
AreAnswered E answers r = AreRight [] E answers × (length answers ≡ queries E) × (r.stdout.items ≡ verified_text (tally answers))

-- limits, text of the events, report: the text spells events within the limits, each of whose queries has a right answer, which the report
-- counts
abbrev pub AnswersRight : Limits → List ℕ → Report → Type 0
AnswersRight L events r = (E : List Event) × SpellsWithin L events E × ((answers : List Answer) × AreAnswered E answers r)

-- limits, text of the events, text of the proof, report: the report of both texts. The status is 0 if and only if the text spells events
-- within the limits and the proof has no fault beside them; then each query has a right answer
pub record ChecksSession (L : Limits) (events proof : List ℕ) (r : Report) : Type 0 where
  pub report : IsReport L (events_within L events) proof r
  pub truth : r.status ≡ 0 → AnswersRight L events r

-- why a check has no report: memory was refused, or an input is still wanted
abbrev pub HasNoReport : SessionCheck → Refusal → Type 0
HasNoReport x f = (f ≡ refusal.NoMemory) ⊎ ((f ≡ refusal.Proof) × ¬ (wanted x ≡ wants.Nothing))
