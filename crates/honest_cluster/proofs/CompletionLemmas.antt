-- Complete evidence that is not refused closes its leaf or is a verdict.
use Rattle.std.proofs.Common.{◌≡◌, ℕ, ◌<◌, List, length, Some, None, slice_get, slice_set, subst, sym, ap, ◌∙◌, inl, inr}
use Rattle.lrat_check.specs.declared.verdict.Reaction.{Reaction}
use Rattle.frames.specs.Answers.{length_of}
use Rattle.frames.specs.declared.answer.Answer.{Answer}
use Rattle.frames.specs.declared.answer.Answer.TheVariants as answers
use Rattle.frames.specs.declared.answer.Finding.{Finding}
use Rattle.frames.specs.declared.answer.Ending.TheVariants as told
use Rattle.frames.specs.declared.frame.Attempt.{Attempt}
use Rattle.evidence.specs.Evidence.{IsComplete, with_bytes}
use Rattle.worker_core.specs.Worker.{WorkerState, ReceivesEvidence, DeliversPart, DeliversVerdict, IsNewVerdict, IsNextPart, candidate_of}
use Rattle.worker_core.specs.declared.candidate.Candidate.{Candidate}
use Rattle.coordinator_core.specs.Coordinator.{CoordinatorState, ReceivesJobEvidence, CompletesFragment, CompletesAssignment, DeliversFirstDone, DeliversPiece, DeliversDone, IsAwaited, IsNextPiece, first_answer}
use Rattle.coordinator_core.specs.declared.job_state.Fixed.{Fixed}
use Rattle.coordinator_core.specs.declared.job_state.Job.{Job}
use Rattle.coordinator_core.specs.declared.job_state.LeafState.{LeafState}
use Rattle.coordinator_core.specs.declared.job_state.LeafState.TheVariants.{Closed}
use Rattle.honest_cluster.specs.ClosedLaws.{EndsBy, EndsWell, IsDecisive}
use Rattle.honest_cluster.proofs.Places.{got_set_same, same_some, none_some}
use Rattle.honest_cluster.proofs.HistoryLemmas.{IsPlain}

-- if the leaf of a job was closed, it is closed
closed_there : (c : CoordinatorState) (j : Job) (new : CoordinatorState) → j.leaf < length c.leaves → new.leaves ≡ slice_set c.leaves j.leaf Closed → slice_get new.leaves j.leaf ≡ Some Closed
closed_there c j new inside now = ap (λ (l : List LeafState). slice_get l j.leaf) now ∙ got_set_same c.leaves j.leaf Closed inside

fragment_end : (c : CoordinatorState) (worker : ℕ) (j : Job) (text : List ℕ) (answer : Reaction) (new : CoordinatorState)
    → j.leaf < length c.leaves → IsPlain answer → CompletesFragment c worker j text answer new → EndsBy answers.Refuted j.leaf answer new
fragment_end c worker j text answer new inside plain (CompletesFragment.wrong wrong a now) = absurd (subst IsPlain a plain)
fragment_end c worker j text answer new inside plain (CompletesFragment.closes closes some a now) = closed_there c j new inside (ap (λ (n : CoordinatorState). n.leaves) now)
fragment_end c worker j text answer new inside plain (CompletesFragment.joins closes all proof joined short a now) = closed_there c j new inside (ap (λ (n : CoordinatorState). n.leaves) now)
fragment_end c worker j text answer new inside plain (CompletesFragment.too_long closes all proof joined long a now) = closed_there c j new inside (ap (λ (n : CoordinatorState). n.leaves) now)

assignment_end : (c : CoordinatorState) (worker : ℕ) (j : Job) (x : Fixed) (answer : Reaction) (new : CoordinatorState)
    → IsPlain answer → CompletesAssignment c worker j x answer new → EndsBy answers.Assignment j.leaf answer new
assignment_end c worker j x answer new plain (CompletesAssignment.holds v evidence a now) = a
assignment_end c worker j x answer new plain (CompletesAssignment.wrong wrong a now) = absurd (subst IsPlain a plain)

gathers_end : (c : CoordinatorState) (worker : ℕ) (j : Job) (x : Fixed) (answer : Reaction) (new : CoordinatorState)
    → j.leaf < length c.leaves → IsPlain answer → IsComplete x.evidence → ReceivesJobEvidence c worker j x answer new → EndsWell x.evidence.finding j.leaf answer new
gathers_end c worker j x answer new inside plain complete (ReceivesJobEvidence.waits more a now) = absurd (more complete)
gathers_end c worker j x answer new inside plain complete (ReceivesJobEvidence.fragment _ refuted ends) =
    inr (subst (λ (k : Answer). EndsBy k j.leaf answer new) (sym refuted) (fragment_end c worker j x.evidence.bytes answer new inside plain ends))
gathers_end c worker j x answer new inside plain complete (ReceivesJobEvidence.assignment _ assigned ends) =
    inr (subst (λ (k : Answer). EndsBy k j.leaf answer new) (sym assigned) (assignment_end c worker j x answer new plain ends))
gathers_end c worker j x answer new inside plain complete (ReceivesJobEvidence.no_memory grows a now) = inl a

pub piece_end : (c : CoordinatorState) (attempt : Attempt) (offset : ℕ) (bytes : List ℕ) (j : Job) (x : Fixed) (answer : Reaction) (new : CoordinatorState)
    → j.leaf < length c.leaves → IsPlain answer → IsNextPiece c attempt offset bytes j x → IsComplete (with_bytes x.evidence bytes)
    → DeliversPiece c attempt offset bytes answer new → EndsWell x.evidence.finding j.leaf answer new
piece_end c attempt offset bytes j x answer new inside plain fits complete (DeliversPiece.is_ignored none a now) = absurd (none j x fits)
piece_end c attempt offset bytes j x answer new inside plain fits complete (DeliversPiece.appends k y other gathers) =
    let same_job : j ≡ k = same_some j k (sym fits.fetched.awaited.job ∙ other.fetched.awaited.job) in
    let same_fixed : x ≡ y = same_some x y (sym fits.fetched.fixed ∙ ap (λ (i : Job). i.fixed) same_job ∙ other.fetched.fixed) in
    let here : ReceivesJobEvidence c attempt.worker j (record x { evidence = with_bytes x.evidence bytes }) answer new =
    subst (λ (i : Job). ReceivesJobEvidence c attempt.worker i (record x { evidence = with_bytes x.evidence bytes }) answer new) (sym same_job)
    (subst (λ (z : Fixed). ReceivesJobEvidence c attempt.worker k (record z { evidence = with_bytes z.evidence bytes }) answer new) (sym same_fixed) gathers) in
    gathers_end c attempt.worker j (record x { evidence = with_bytes x.evidence bytes }) answer new inside plain complete here

first_end : (c : CoordinatorState) (attempt : Attempt) (finding : Finding) (j : Job) (answer : Reaction) (new : CoordinatorState)
    → j.leaf < length c.leaves → IsPlain answer → length_of finding ≡ 0 → DeliversFirstDone c attempt j (told.Decided finding) answer new → EndsWell finding j.leaf answer new
first_end c attempt finding j answer new inside plain empty (DeliversFirstDone.limited end meets) = absurd (never end)
  where
    never : told.Decided finding ≡ told.Limit → ⊥
    never e = cc
first_end c attempt finding j answer new inside plain empty (DeliversFirstDone.wrong_length f end wrong a now) = absurd (subst IsPlain a plain)
first_end c attempt finding j answer new inside plain empty (DeliversFirstDone.fixes f end long gathers) =
    let same : finding ≡ f = same_decided finding f end in
    let here : ReceivesJobEvidence c attempt.worker j (first_answer attempt.incarnation finding) answer new = subst (λ (g : Finding). ReceivesJobEvidence c attempt.worker j (first_answer attempt.incarnation g) answer new) (sym same) gathers in
    gathers_end c attempt.worker j (first_answer attempt.incarnation finding) answer new inside plain (sym empty) here
  where
    same_decided : (p q : Finding) → told.Decided p ≡ told.Decided q → p ≡ q
    same_decided p q e = cc

pub done_end : (c : CoordinatorState) (attempt : Attempt) (finding : Finding) (j : Job) (answer : Reaction) (new : CoordinatorState)
    → j.leaf < length c.leaves → IsPlain answer → IsAwaited c attempt.session attempt.job attempt.worker j → j.fixed ≡ None → length_of finding ≡ 0
    → DeliversDone c attempt (told.Decided finding) answer new → EndsWell finding j.leaf answer new
done_end c attempt finding j answer new inside plain awaited free empty (DeliversDone.is_ignored none a now) = absurd (none j awaited)
done_end c attempt finding j answer new inside plain awaited free empty (DeliversDone.first k other also answered) =
    let same_job : j ≡ k = same_some j k (sym awaited.job ∙ other.job) in
    first_end c attempt finding j answer new inside plain empty (subst (λ (i : Job). DeliversFirstDone c attempt i (told.Decided finding) answer new) (sym same_job) answered)
done_end c attempt finding j answer new inside plain awaited free empty (DeliversDone.again k x fetched a now) =
    let same_job : j ≡ k = same_some j k (sym awaited.job ∙ fetched.awaited.job) in
    absurd (none_some x (sym free ∙ ap (λ (i : Job). i.fixed) same_job ∙ fetched.fixed))
done_end c attempt finding j answer new inside plain awaited free empty (DeliversDone.anew k x other fixed differs a now) =
    let same_job : j ≡ k = same_some j k (sym awaited.job ∙ other.job) in absurd (none_some x (sym free ∙ ap (λ (i : Job). i.fixed) same_job ∙ fixed))

collects_end : (w : WorkerState) (c : Candidate) (answer : Reaction) (new : WorkerState) → IsPlain answer → IsComplete c.evidence → ReceivesEvidence w c answer new → IsDecisive answer
collects_end w c answer new plain complete (ReceivesEvidence.waits more a now) = absurd (more complete)
collects_end w c answer new plain complete (ReceivesEvidence.holds _ v evidence a now) = inr a
collects_end w c answer new plain complete (ReceivesEvidence.wrong _ wrong a now) = absurd (subst IsPlain a plain)
collects_end w c answer new plain complete (ReceivesEvidence.no_memory grows a now) = inl a

pub verdict_end : (w : WorkerState) (session : ℕ) (finding : Finding) (answer : Reaction) (new : WorkerState)
    → IsPlain answer → IsNewVerdict w session → length_of finding ≡ 0 → DeliversVerdict w session finding answer new → IsDecisive answer
verdict_end w session finding answer new plain news empty (DeliversVerdict.stale old a now) = absurd (old news)
verdict_end w session finding answer new plain news empty (DeliversVerdict.wrong_length _ wrong a now) = absurd (subst IsPlain a plain)
verdict_end w session finding answer new plain news empty (DeliversVerdict.begins _ long collects) = collects_end w (candidate_of session finding) answer new plain (sym empty) collects

pub part_end : (w : WorkerState) (session : ℕ) (part : Answer) (offset : ℕ) (bytes : List ℕ) (c : Candidate) (answer : Reaction) (new : WorkerState)
    → IsPlain answer → IsNextPart w session part offset bytes c → IsComplete (with_bytes c.evidence bytes) → DeliversPart w session part offset bytes answer new → IsDecisive answer
part_end w session part offset bytes c answer new plain fits complete (DeliversPart.is_ignored none a now) = absurd (none c fits)
part_end w session part offset bytes c answer new plain fits complete (DeliversPart.appends d other collects) =
    let same : c ≡ d = same_some c d (sym fits.there ∙ other.there) in
    collects_end w (record c { evidence = with_bytes c.evidence bytes }) answer new plain complete
    (subst (λ (k : Candidate). ReceivesEvidence w (record k { evidence = with_bytes k.evidence bytes }) answer new) (sym same) collects)
