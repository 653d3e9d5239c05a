-- The invariant of a worker under closed schedules.
use Rattle.std.proofs.Common.{◌≡◌, ◌≢◌, ℕ, ◌<◌, List, length, Contains, Option, Some, None, refl, subst, sym, ◌⊎◌, inl, inr}
use Rattle.icnf.specs.Leaves.{Cube}
use Rattle.lrat_check.specs.Verdicts.{Right}
use Rattle.lrat_check.specs.declared.verdict.Verdict.{Verdict}
use Rattle.lrat_check.specs.declared.verdict.Reaction.{Reaction}
use Rattle.frames.specs.declared.answer.Answer.{Answer}
use Rattle.frames.specs.declared.answer.Finding.{Finding}
use Rattle.frames.specs.declared.frame.Attempt.{Attempt}
use Rattle.frames.specs.declared.frame.Frame.{Frame}
use Rattle.frames.specs.declared.frame.Frame.TheVariants.{Task, Done, Fetch, Piece, Verdict as VerdictFrame, Want, Part, Idle, Rest}
use Rattle.evidence.specs.Evidence.{answer_in, bytes_in, finding_in, HasWrongLength}
use Rattle.evidence.specs.Jobs.{name_of, IsBefore, IsLater}
use Rattle.evidence.specs.Evidence.{with_bytes}
use Rattle.evidence.specs.declared.job.JobName.{JobName}
use Rattle.worker_core.specs.Worker.{WorkerState, DeliversTask, DeliversFetch, DeliversVerdict, DeliversPart, ReceivesEvidence, WorkerDelivers, candidate_of}
use Rattle.worker_core.specs.declared.work.Work.{Work}
use Rattle.worker_core.specs.declared.work.Work.TheVariants.{Free, Pending, Limited, Found}
use Rattle.worker_core.specs.declared.candidate.Candidate.{Candidate}
use Rattle.honest_cluster.specs.ClosedLaws.{HasBytesAt}
use Rattle.honest_cluster.proofs.History.{History, IsTrueFrame, IsSettled, IsHonestWork, IsHonestWorker, IsEarlierJob, IsPassed, IsPrefixOf, asks, decides}
use Rattle.honest_cluster.proofs.Prefixes.{front_grows, empty_front}
use Rattle.honest_cluster.proofs.HistoryLemmas.{IsPlain, plain_by, before_before, right_length, verdict_there}

-- an event left a worker honest, with a reaction that is no refusal; what the worker was made with is unchanged
pub record IsFine (T : History) (w : WorkerState) (answer : Reaction) (new : WorkerState) : Type 0 where
  pub honest : IsHonestWorker T new
  pub plain : IsPlain answer
  pub formula : new.formula ≡ w.formula
  pub base : new.base ≡ w.base
  pub number : new.number ≡ w.number
  pub incarnation : new.incarnation ≡ w.incarnation

-- nothing changes
pub stays : (T : History) (w : WorkerState) (answer r : Reaction) (new : WorkerState) → IsHonestWorker T w → answer ≡ r → IsPlain r → new ≡ w → IsFine T w answer new
stays T w answer r new honest is plain same = subst (λ (n : WorkerState). IsFine T w answer n) (sym same) (record {
  honest = honest;
  plain = plain_by answer r is plain;
  formula = refl;
  base = refl;
  number = refl;
  incarnation = refl;
})

-- each job that a worker is past is earlier than a later one
reached_before : (last : Option JobName) (name later : JobName) → IsPassed last name → IsLater last later → IsBefore name later
reached_before last name later reached is_later = go reached.2 (subst (λ (o : Option JobName). IsLater o later) reached.1 is_later)
  where
    go : IsBefore name reached.0 ⊎ (name ≡ reached.0) → IsBefore reached.0 later → IsBefore name later
    go (inl before) next = before_before name reached.0 later before next
    go (inr same) next = subst (λ (n : JobName). IsBefore n later) (sym same) next

behind_before : (T : History) (w : WorkerState) (work : Work) (name later : JobName) → IsHonestWork T w work → IsEarlierJob w work name → IsLater w.last later → IsBefore name later
behind_before T w Free name later honest behind is_later = reached_before w.last name later behind is_later
behind_before T w (Pending waits cube limit) name later honest behind is_later =
    before_before name waits later behind (subst (λ (o : Option JobName). IsLater o later) honest.0 is_later)
behind_before T w (Limited last) name later honest behind is_later = reached_before w.last name later behind is_later
behind_before T w (Found last answer bytes noted) name later honest behind is_later = reached_before w.last name later behind is_later

task_fine : (T : History) (w : WorkerState) (name : JobName) (limit : ℕ) (cube : Cube) (answer : Reaction) (new : WorkerState)
    → IsSettled w.formula w.base T → IsHonestWorker T w → Contains T.asked (asks name cube) → DeliversTask w name limit cube answer new → IsFine T w answer new
task_fine T w name limit cube answer new settled honest asked (DeliversTask.repeated why is same) = stays T w answer _ new honest is tt same
task_fine T w name limit cube answer new settled honest asked (DeliversTask.foreign later outside is same) = absurd (outside (settled.inside name cube asked))
task_fine T w name limit cube answer new settled honest asked (DeliversTask.no_memory later inside some is same) = stays T w answer _ new honest is tt same
task_fine T w name limit cube answer new settled honest asked (DeliversTask.taken later inside is now) =
    subst (λ (n : WorkerState). IsFine T w answer n) (sym now) (record {
      honest = record {
        work = (refl, asked);
        behind = λ n r told. behind_before T w w.work n name honest.work (honest.behind n r told) later;
        candidate = honest.candidate;
        right = honest.right;
      };
      plain = plain_by answer _ is tt;
      formula = refl;
      base = refl;
      number = refl;
      incarnation = refl;
    })

fetch_fine : (T : History) (w : WorkerState) (attempt : Attempt) (offset : ℕ) (answer : Reaction) (new : WorkerState)
    → IsHonestWorker T w → DeliversFetch w attempt offset answer new → IsFine T w answer new
fetch_fine T w attempt offset answer new honest (DeliversFetch.is_ignored none is same) = stays T w answer _ new honest is tt same
fetch_fine T w attempt offset answer new honest (DeliversFetch.notes found bytes keeps is now) =
    let was : IsHonestWork T w (Found (name_of attempt) found bytes keeps.noted) = subst (IsHonestWork T w) keeps.work honest.work in
    subst (λ (n : WorkerState). IsFine T w answer n) (sym now) (record {
      honest = record {
        work = (was.0, was.1, λ o e. subst (λ (k : ℕ). k < length bytes) (some_same offset o e) keeps.within);
        behind = λ n r told. subst (λ (k : Work). IsEarlierJob w k n) keeps.work (honest.behind n r told);
        candidate = honest.candidate;
        right = honest.right;
      };
      plain = plain_by answer _ is tt;
      formula = refl;
      base = refl;
      number = refl;
      incarnation = refl;
    })
  where
    some_same : (a b : ℕ) → Some a ≡ Some b → a ≡ b
    some_same a b e = cc

-- the bytes of a candidate are a prefix of the verdict of its session
abbrev IsHonestCandidate : History → Candidate → Type 0
IsHonestCandidate T c = (v : Verdict) × Contains T.decided (decides c.session v) × IsPrefixOf c.evidence (answer_in v) (bytes_in v)

-- a worker with another candidate, or with none, and perhaps a verdict
with_candidate : (T : History) (w : WorkerState) (answer r : Reaction) (o : Option Candidate) (v : Verdict) (new : WorkerState) → IsHonestWorker T w
    → ((c : Candidate) → o ≡ Some c → IsHonestCandidate T c) → Right w.formula v → answer ≡ r → IsPlain r
    → new ≡ record w { candidate = o; verdict = v } → IsFine T w answer new
with_candidate T w answer r o v new honest known right is plain now =
    subst (λ (n : WorkerState). IsFine T w answer n) (sym now) (record {
      honest = record { work = honest_work w.work honest.work; behind = λ n r told. still_behind w.work n (honest.behind n r told); candidate = known; right = right };
      plain = plain_by answer r is plain;
      formula = refl;
      base = refl;
      number = refl;
      incarnation = refl;
    })
  where
    honest_work : (k : Work) → IsHonestWork T w k → IsHonestWork T (record w { candidate = o; verdict = v }) k
    honest_work Free h = h
    honest_work (Pending name cube limit) h = h
    honest_work (Limited name) h = h
    honest_work (Found name a bytes noted) h = h

    still_behind : (k : Work) (n : JobName) → IsEarlierJob w k n → IsEarlierJob (record w { candidate = o; verdict = v }) k n
    still_behind Free n h = h
    still_behind (Pending name cube limit) n h = h
    still_behind (Limited name) n h = h
    still_behind (Found name a bytes noted) n h = h

collects_fine : (T : History) (w : WorkerState) (c : Candidate) (answer : Reaction) (new : WorkerState)
    → IsSettled w.formula w.base T → IsHonestWorker T w → IsHonestCandidate T c → ReceivesEvidence w c answer new → IsFine T w answer new
collects_fine T w c answer new settled honest known (ReceivesEvidence.waits more is now) =
    with_candidate T w answer _ (Some c) w.verdict new honest (λ d e. subst (IsHonestCandidate T) (same d e) known) honest.right is tt now
  where
    same : (d : Candidate) → Some c ≡ Some d → c ≡ d
    same d e = cc
collects_fine T w c answer new settled honest known (ReceivesEvidence.holds complete v right is now) =
    with_candidate T w answer _ None v new honest (λ d e. cc) right.right is tt now
collects_fine T w c answer new settled honest known (ReceivesEvidence.wrong complete none is now) =
    let some : known.0 ≢ _ = settled.decision c.session known.0 known.1 in
    absurd (none known.0 (verdict_there w.formula c.evidence known.0 some (settled.right c.session known.0 known.1) known.2 complete))
collects_fine T w c answer new settled honest known (ReceivesEvidence.no_memory grows is same) = stays T w answer _ new honest is tt same

verdict_fine : (T : History) (w : WorkerState) (session : ℕ) (finding : Finding) (answer : Reaction) (new : WorkerState)
    → IsSettled w.formula w.base T → IsHonestWorker T w → (v : Verdict) → Contains T.decided (decides session v) → finding ≡ finding_in v
    → DeliversVerdict w session finding answer new → IsFine T w answer new
verdict_fine T w session finding answer new settled honest v decided says (DeliversVerdict.stale old is same) = stays T w answer _ new honest is tt same
verdict_fine T w session finding answer new settled honest v decided says (DeliversVerdict.wrong_length news wrong is same) =
    absurd (right_length w.formula v (settled.decision session v decided) (settled.right session v decided) (subst (HasWrongLength w.formula) says wrong))
verdict_fine T w session finding answer new settled honest v decided says (DeliversVerdict.begins news long collects) =
    collects_fine T w (candidate_of session finding) answer new settled honest (v, decided, record { finding = says; front = empty_front (bytes_in v) }) collects

part_fine : (T : History) (w : WorkerState) (session : ℕ) (part : Answer) (offset : ℕ) (bytes : List ℕ) (answer : Reaction) (new : WorkerState)
    → IsSettled w.formula w.base T → IsHonestWorker T w → (v : Verdict) → Contains T.decided (decides session v) → HasBytesAt (bytes_in v) offset bytes
    → DeliversPart w session part offset bytes answer new → IsFine T w answer new
part_fine T w session part offset bytes answer new settled honest v decided stands (DeliversPart.is_ignored none is same) = stays T w answer _ new honest is tt same
part_fine T w session part offset bytes answer new settled honest v decided stands (DeliversPart.appends c fits collects) =
    let known : IsHonestCandidate T c = honest.candidate c fits.there in
    let here : Contains T.decided (decides c.session v) = subst (λ (s : ℕ). Contains T.decided (decides s v)) (sym fits.session_is) decided in
    let same : v ≡ known.0 = settled.one_verdict c.session v known.0 here known.1 in
    let there : HasBytesAt (bytes_in known.0) offset bytes = subst (λ (k : Verdict). HasBytesAt (bytes_in k) offset bytes) same stands in
    collects_fine T w (record c { evidence = with_bytes c.evidence bytes }) answer new settled honest
    (known.0, known.1, record { finding = known.2.finding; front = front_grows c.evidence.bytes (bytes_in known.0) bytes offset known.2.front there fits.comes.next }) collects

-- a true frame leaves a worker honest, and is not refused
pub delivery_fine : (T : History) (limit : ℕ) (w : WorkerState) (frame : Frame) (answer : Reaction) (new : WorkerState)
    → IsSettled w.formula w.base T → IsHonestWorker T w → IsTrueFrame T limit frame → WorkerDelivers w frame answer new → IsFine T w answer new
delivery_fine T limit w (Task session job bound cube) answer new settled honest told step = task_fine T w _ bound cube answer new settled honest told.1 step
delivery_fine T limit w (Fetch attempt offset) answer new settled honest told step = fetch_fine T w attempt offset answer new honest step
delivery_fine T limit w (VerdictFrame session finding) answer new settled honest told step = verdict_fine T w session finding answer new settled honest told.0 told.1 told.2 step
delivery_fine T limit w (Part session part offset bytes) answer new settled honest told step = part_fine T w session part offset bytes answer new settled honest told.0 told.1 told.3 step
delivery_fine T limit w (Done attempt ending) answer new settled honest told step = stays T w answer _ new honest step.0 tt step.1
delivery_fine T limit w (Piece attempt offset bytes) answer new settled honest told step = stays T w answer _ new honest step.0 tt step.1
delivery_fine T limit w (Want session worker offset) answer new settled honest told step = stays T w answer _ new honest step.0 tt step.1
delivery_fine T limit w (Idle worker incarnation) answer new settled honest told step = stays T w answer _ new honest step.0 tt step.1
delivery_fine T limit w Rest answer new settled honest told step = stays T w answer _ new honest step.0 tt step.1
