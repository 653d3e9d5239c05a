-- The rules of delivery to a worker, over plain values.
use Rattle.std.proofs.Common.{◌≡◌, ℕ, ◌<◌, List, length, Option, Some, None, refl, sym, ap, ◌∙◌, inl, arith}
use Rattle.std.proofs.lemmas.List.{length-append}
use Rattle.lrat_check.specs.declared.verdict.Verdict.{Verdict}
use Rattle.lrat_check.specs.declared.verdict.Verdict.TheVariants.{Nothing}
use Rattle.lrat_check.specs.declared.verdict.Reaction.TheVariants as reaction
use Rattle.frames.specs.Answers.{answer_number, answer_of}
use Rattle.frames.specs.declared.answer.Answer.{Answer}
use Rattle.frames.specs.declared.answer.Finding.{Finding}
use Rattle.frames.specs.declared.frame.Attempt.{Attempt}
use Rattle.evidence.specs.Evidence.{IsRightEvidence, IsWrongEvidence, IsComplete, HasWrongLength, with_bytes}
use Rattle.evidence.specs.Jobs.{name_of}
use Rattle.evidence.specs.declared.job.JobName.{JobName}
use Rattle.worker_core.specs.declared.candidate.Candidate.{Candidate}
use Rattle.worker_core.specs.declared.work.Work.TheVariants.{Found}
use Rattle.worker_core.specs.inner.CandidateCheck.{IsNextPartOf, longer}
use Rattle.worker_core.specs.Worker.{WorkerState, DeliversFetch, DeliversPart, DeliversVerdict, ReceivesEvidence, IsNewVerdict, IsNextPart, candidate_of}

-- ---- a fetch

same_name : (attempt : Attempt) (name : JobName) → name.session ≡ attempt.session → name.job ≡ attempt.job → name ≡ name_of attempt
same_name attempt name session job =
    ap (λ (s : ℕ). record { session = s; job = name.job }) session ∙ ap (λ (j : ℕ). record { session = attempt.session; job = j }) job

pub notes : (w : WorkerState) (attempt : Attempt) (offset : ℕ) (name : JobName) (answer : Answer) (bytes : List ℕ) (noted : Option ℕ)
    → w.work ≡ Found name answer bytes noted → attempt.worker ≡ w.number → attempt.incarnation ≡ w.incarnation → name.session ≡ attempt.session → name.job ≡ attempt.job → offset < length bytes
    → DeliversFetch w attempt offset reaction.Taken (record w { work = Found name answer bytes (Some offset) })
notes w attempt offset name answer bytes noted work worker incarnation session job within =
    let named : name ≡ name_of attempt = same_name attempt name session job in
    DeliversFetch.notes answer bytes
    (record { noted = noted; work = work ∙ ap (λ (n : JobName). Found n answer bytes noted) named; worker = worker; incarnation = incarnation; within = within })
    refl (ap (λ (n : JobName). record w { work = Found n answer bytes (Some offset) }) named)

-- ---- a part

fits : (w : WorkerState) (c : Candidate) (session : ℕ) (part : Answer) (offset : ℕ) (bytes : List ℕ) → w.verdict ≡ Nothing → w.candidate ≡ Some c → IsNextPartOf c session part offset bytes → IsNextPart w session part offset bytes c
fits w c session part offset bytes undecided there is = record { undecided = undecided; there = there; session_is = is.session_is; answer_is = is.answer_is; comes = is.comes }

pub part_waits : (w : WorkerState) (c d : Candidate) (session : ℕ) (part : Answer) (offset : ℕ) (bytes : List ℕ) → w.verdict ≡ Nothing → w.candidate ≡ Some c → IsNextPartOf c session part offset bytes
    → d ≡ longer c bytes → ¬ (IsComplete (with_bytes c.evidence bytes)) → DeliversPart w session part offset bytes reaction.Taken (record w { candidate = Some d })
part_waits w c d session part offset bytes undecided there is same more =
    DeliversPart.appends c (fits w c session part offset bytes undecided there is) (ReceivesEvidence.waits more refl (ap (λ (k : Candidate). record w { candidate = Some k }) same))

pub part_holds : (w : WorkerState) (c : Candidate) (o : Option Candidate) (v : Verdict) (session : ℕ) (part : Answer) (offset : ℕ) (bytes : List ℕ) → w.verdict ≡ Nothing → w.candidate ≡ Some c
    → IsNextPartOf c session part offset bytes → o ≡ None → IsComplete (with_bytes c.evidence bytes) → IsRightEvidence w.formula (answer_of c.evidence.finding) (with_bytes c.evidence bytes).bytes v
    → DeliversPart w session part offset bytes reaction.Verdict (record w { candidate = o; verdict = v })
part_holds w c o v session part offset bytes undecided there is gone complete right =
    DeliversPart.appends c (fits w c session part offset bytes undecided there is) (ReceivesEvidence.holds complete v right refl (ap (λ (k : Option Candidate). record w { candidate = k; verdict = v }) gone))

pub part_is_wrong : (w : WorkerState) (c : Candidate) (o : Option Candidate) (n : ℕ) (session : ℕ) (part : Answer) (offset : ℕ) (bytes : List ℕ) → w.verdict ≡ Nothing → w.candidate ≡ Some c
    → IsNextPartOf c session part offset bytes → o ≡ None → n ≡ answer_number part → IsComplete (with_bytes c.evidence bytes) → IsWrongEvidence w.formula (answer_of c.evidence.finding) (with_bytes c.evidence bytes).bytes
    → DeliversPart w session part offset bytes (reaction.Refused n) (record w { candidate = o })
part_is_wrong w c o n session part offset bytes undecided there is gone number complete wrong =
    DeliversPart.appends c (fits w c session part offset bytes undecided there is)
    (ReceivesEvidence.wrong complete wrong (ap (λ (k : ℕ). reaction.Refused k) (number ∙ ap answer_number (sym is.answer_is))) (ap (λ (k : Option Candidate). record w { candidate = k }) gone))

pub part_no_memory : (w : WorkerState) (c d : Candidate) (session : ℕ) (part : Answer) (offset : ℕ) (bytes : List ℕ) → w.verdict ≡ Nothing → w.candidate ≡ Some c
    → IsNextPartOf c session part offset bytes → d ≡ c → 0 < length bytes → DeliversPart w session part offset bytes reaction.NoMemory (record w { candidate = Some d })
part_no_memory w c d session part offset bytes undecided there is same some =
    DeliversPart.appends c (fits w c session part offset bytes undecided there is)
    (ReceivesEvidence.no_memory (inl (omega (arith, some, length-append c.evidence.bytes bytes))) refl (ap (λ (k : Option Candidate). record w { candidate = k }) (ap (λ (k : Candidate). Some k) same ∙ sym there)))

-- ---- a verdict

pub verdict_holds : (w : WorkerState) (session : ℕ) (finding : Finding) (v : Verdict) → IsNewVerdict w session → ¬ (HasWrongLength w.formula finding)
    → IsComplete (candidate_of session finding).evidence → IsRightEvidence w.formula (answer_of finding) (candidate_of session finding).evidence.bytes v
    → DeliversVerdict w session finding reaction.Verdict (record w { candidate = None; verdict = v })
verdict_holds w session finding v news fits complete right = DeliversVerdict.begins news fits (ReceivesEvidence.holds complete v right refl refl)
