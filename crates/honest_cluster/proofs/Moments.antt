-- Every moment of a closed schedule.
use Rattle.std.proofs.Common.{◌≡◌, ℕ, zero, suc, ◌+◌, ◌<◌, ◌≤◌, List, [], ◌∷◌, ◌++◌, length, map, Contains, Option, Some, None, slice_get, get_or, refl, subst, sym, ap, ◌∙◌, inl, inr, arith}
use Rattle.std.proofs.lemmas.List.Elements.{All-nil, All-contains}
use Rattle.std.proofs.lemmas.Option.{slice_get_within}
use Rattle.dimacs.specs.logic.Base.{numbers_from}
use Rattle.dimacs.specs.logic.Cnf.{Cnf, IsFormula}
use Rattle.lrat_check.specs.Verdicts.{Right, Agreement}
use Rattle.lrat_check.specs.declared.verdict.Reaction.{Reaction}
use Rattle.frames.specs.declared.answer.Ending.TheVariants as told
use Rattle.frames.specs.declared.frame.Frame.{Frame}
use Rattle.frames.specs.declared.frame.Frame.TheVariants.{Task, Piece, Part, Done, Verdict as VerdictFrame}
use Rattle.cube_split.specs.Pairs.{AreOf}
use Rattle.evidence.specs.Events.{Delivered, Reacted}
use Rattle.worker_core.specs.Worker.{WorkerState, WorkerDelivers}
use Rattle.coordinator_core.specs.Coordinator.{IsAwaited}
use Rattle.coordinator_core.specs.Invariant.{IsTreeOf}
use Rattle.coordinator_core.specs.declared.job_state.Job.{Job}
use Rattle.coordinator_core.proofs.NewCoordinatorLemmas.{begins}
use Rattle.honest_cluster.specs.declared.event.ClosedEvent.TheVariants.{Deliver}
use Rattle.honest_cluster.specs.declared.event.ClosedEvent.{ClosedEvent}
use Rattle.honest_cluster.specs.ClosedSchedule.{Beginning, ClosedState, HappensClosed, RunsClosed, StepsAt, HappensDeliver, first_worker, new_closed, held_by, verdict_at}
use Rattle.honest_cluster.specs.ClosedLaws.{DeliversFrame, EndsWell, IsMoment, NeverRefused, PiecesEndWell, DonesEndWell, PartsEndWell, VerdictsEndWell, ClosedIsJoined, AlwaysRight, NeverDiffer, OneFormula, OneTask, OneAnswer, HasBytesAt, OneText}
use Rattle.honest_cluster.proofs.History.{History, IsTrueFrame, IsMember, IsHonestCluster, IsHonestJob, shared_base, ending_of, Shown}
use Rattle.frames.specs.declared.answer.Answer.{Answer}
use Rattle.honest_cluster.proofs.HistoryLemmas.{IsPlain}
use Rattle.honest_cluster.proofs.WorkerSlots.{job_from_1, job_desk}
use Rattle.honest_cluster.proofs.EventLemmas.{CoordinatorsStay, new_honest, event_keeps, run_keeps}
use Rattle.honest_cluster.proofs.CompletionLemmas.{piece_end, done_end, part_end, verdict_end}
use Rattle.honest_cluster.proofs.Places.{same_some, none_some}

-- numbers in order
numbers_length : (k n : ℕ) → length (numbers_from k n) ≡ n
numbers_length k zero = refl
numbers_length k (suc n) = ap suc (numbers_length (k + 1) n)

numbers_at : (k n i d : ℕ) → i < n → get_or (numbers_from k n) i d ≡ k + i
numbers_at k zero i d lt = absurd (omega (arith, lt))
numbers_at k (suc n) zero d lt = omega arith
numbers_at k (suc n) (suc i) d lt = let h : get_or (numbers_from (k + 1) n) i d ≡ (k + 1) + i = numbers_at (k + 1) n i d (omega (arith, lt)) in omega (arith, h)

numbers_have : (k n i : ℕ) → i < n → Contains (numbers_from k n) (k + i)
numbers_have k n i lt = (i, omega (arith, lt, numbers_length k n), numbers_at k n i (k + i) lt)

made_at : {X : Type 0} (f : ℕ → X) (k n i : ℕ) (x : X) → slice_get (map f (numbers_from k n)) i ≡ Some x → (f (k + i) ≡ x) × (i < n)
made_at {X} f k zero i x h = absurd (none_some x h)
made_at {X} f k (suc n) zero x h = let here : k ≡ k + 0 = omega arith in (ap f (sym here) ∙ same_some (f k) x h, omega arith)
made_at f k (suc n) (suc i) x h =
    let rest = made_at f (k + 1) n i x h in
    let at : k + suc i ≡ (k + 1) + i = omega arith in
    let lt : i < n = rest.1 in
    (ap f at ∙ rest.0, omega (arith, lt))

-- the empty history
nothing_told : History
nothing_told = record { asked = []; answered = []; decided = [] }

none_in : {X : Type 0} (x : X) → Contains [] x → ⊥
none_in x h = let lt : h.0 < 0 = h.1 in absurd (omega (arith, lt))

pub new_closed_is : (b : Beginning) → IsFormula b.formula → AreOf b.formula b.definitions → IsTreeOf (shared_base b) b.tree → 1 ≤ b.workers → b.workers ≤ 64
    → IsHonestCluster b (record { asked = []; answered = []; decided = [] }) (new_closed b)
new_closed_is b formula defined initial_tree some_worker few_workers = record {
  settled = record {
    one_cube = λ name p q h k. absurd (none_in _ h);
    inside = λ name q h. absurd (none_in _ h);
    one_reply = λ attempt r s h k. absurd (none_in _ h);
    true_reply = λ attempt r h. absurd (none_in _ h);
    one_verdict = λ session v w h k. absurd (none_in _ h);
    decision = λ session v h. absurd (none_in _ h);
    right = λ session v h. absurd (none_in _ h);
  };
  formula = refl;
  definitions = refl;
  limit_is = refl;
  session = numbers_have 1 (b.workers + 1) 0 (omega arith);
  coordinator = begins b.formula b.definitions b.tree b.limit b.workers 1 formula defined initial_tree some_worker few_workers;
  honest = new_honest (record { asked = []; answered = []; decided = [] }) b.formula b.definitions b.tree b.limit b.workers 1 (λ name q h e. none_in _ h) (λ v h. none_in _ h);
  workers = λ i w h. member i w (made_at (first_worker b.formula b.definitions) 1 b.workers i w h);
  frames = All-nil (IsTrueFrame (record { asked = []; answered = []; decided = [] }) b.limit);
  used = record {
    asked = λ name q h. absurd (none_in _ h);
    answered = λ attempt r h. absurd (none_in _ h);
    decided = λ s v h. absurd (none_in _ h);
  };
}
  where
    made : (i : ℕ) → i < b.workers → IsMember b (record { asked = []; answered = []; decided = [] }) (numbers_from 1 (b.workers + 1)) i (first_worker b.formula b.definitions (1 + i))
    made i lt = record {
      formula = refl;
      base = refl;
      number = omega arith;
      known = let at : 1 + (i + 1) ≡ (1 + i) + 1 = omega arith in subst (Contains (numbers_from 1 (b.workers + 1))) at (numbers_have 1 (b.workers + 1) (i + 1) (omega (arith, lt)));
      honest = record {
        work = tt;
        behind = λ name r h. absurd (none_in _ h);
        candidate = λ c e. absurd (none_some c e);
        right = tt;
      };
    }

    member : (i : ℕ) (w : WorkerState) → (first_worker b.formula b.definitions (1 + i) ≡ w) × (i < b.workers) → IsMember b (record { asked = []; answered = []; decided = [] }) (numbers_from 1 (b.workers + 1)) i w
    member i w h = subst (IsMember b (record { asked = []; answered = []; decided = [] }) (numbers_from 1 (b.workers + 1)) i) h.0 (made i h.1)

-- what holds at every moment
reached_is : CoordinatorsStay → (b : Beginning) (s : ClosedState) → IsMoment b s → (U : History) × IsHonestCluster b U s
reached_is law b s r = run_keeps law b _ (new_closed b) r.events s (new_closed_is b r.formula r.defined r.initial_tree r.some_worker r.few_workers) r.runs

pub never_refused : CoordinatorsStay → NeverRefused
never_refused law b s r event answer new happens why refused =
    let is = reached_is law b s r in
    let kept = event_keeps law b is.0 s event answer new is.1 happens in
    subst IsPlain refused kept.2

pub closed_is_joined : CoordinatorsStay → ClosedIsJoined
closed_is_joined law b s r all = let is = reached_is law b s r in is.1.coordinator.ended all

pub one_formula : CoordinatorsStay → OneFormula
one_formula law b s r = let is = reached_is law b s r in (is.1.formula, λ place w h. let m = is.1.workers place w h in m.formula)

pub always_right : CoordinatorsStay → AlwaysRight
always_right law b s r node v held = go node held
  where
    is : (U : History) × IsHonestCluster b U s
    is = reached_is law b s r

    worker_right : (place : ℕ) (o : Option WorkerState) → slice_get s.workers place ≡ o → held_by o ≡ Some v → Right b.formula v
    worker_right place None at h = absurd (none_some v h)
    worker_right place (Some w) at h =
        let m = is.1.workers place w at in
        subst (Right b.formula) (same_some w.verdict v h) (subst (λ (f : Cnf). Right f w.verdict) m.formula m.honest.right)

    go : (k : ℕ) → verdict_at s k ≡ Some v → Right b.formula v
    go zero h = subst (Right b.formula) (same_some s.coordinator.verdict v h) (subst (λ (f : Cnf). Right f s.coordinator.verdict) is.1.formula is.1.coordinator.right)
    go (suc place) h = worker_right place (slice_get s.workers place) refl h

pub never_differ : CoordinatorsStay → Agreement → NeverDiffer
never_differ law agreement b s r c t same also node other v w held shown differ =
    agreement b.formula v w (always_right law b s r node v held) (subst (λ (F : Cnf). Right F w) same (always_right law c t also other w shown)) differ

-- the moment at which a cluster begins, and the one after an event
pub first_moment : (b : Beginning) → IsFormula b.formula → AreOf b.formula b.definitions → IsTreeOf (shared_base b) b.tree → 1 ≤ b.workers → b.workers ≤ 64 → IsMoment b (new_closed b)
first_moment b formula defined initial_tree some_worker few_workers =
    record { formula = formula; defined = defined; initial_tree = initial_tree; some_worker = some_worker; few_workers = few_workers; events = []; runs = refl }

run_on : (s : ClosedState) (events : List ClosedEvent) (mid : ClosedState) (event : ClosedEvent) (answer : Reaction) (new : ClosedState)
    → RunsClosed s events mid → HappensClosed mid event answer new → RunsClosed s (events ++ event ∷ []) new
run_on s [] mid event answer new same happens = (answer, new, subst (λ (k : ClosedState). HappensClosed k event answer new) same happens, refl)
run_on s (first ∷ events) mid event answer new (reaction, next, happened, runs) happens = (reaction, next, happened, run_on next events mid event answer new runs happens)

pub next_moment : (b : Beginning) (s : ClosedState) (event : ClosedEvent) (answer : Reaction) (new : ClosedState)
    → IsMoment b s → HappensClosed s event answer new → IsMoment b new
next_moment b s event answer new r happens = record {
  formula = r.formula;
  defined = r.defined;
  initial_tree = r.initial_tree;
  some_worker = r.some_worker;
  few_workers = r.few_workers;
  events = r.events ++ event ∷ [];
  runs = run_on (new_closed b) r.events s event answer new r.runs happens;
}

-- a frame in the list is true
listed : (b : Beginning) (T : History) (s : ClosedState) (frame : Frame) → IsHonestCluster b T s → Contains s.frames frame → IsTrueFrame T b.limit frame
listed b T s frame is among = All-contains (IsTrueFrame T b.limit) s.frames frame is.frames among

pub one_task : CoordinatorsStay → OneTask
one_task law b s r session job first second p q one other =
    let is = reached_is law b s r in
    let here = listed b is.0 s (Task session job first p) is.1 one in
    let there = listed b is.0 s (Task session job second q) is.1 other in
    (here.0 ∙ sym there.0, is.1.settled.one_cube _ p q here.1 there.1)

pub one_answer : CoordinatorsStay → OneAnswer
one_answer law b s r attempt first second one other =
    let is = reached_is law b s r in
    let here = listed b is.0 s (Done attempt first) is.1 one in
    let there = listed b is.0 s (Done attempt second) is.1 other in
    let same : here.0 ≡ there.0 = is.1.settled.one_reply attempt here.0 there.0 here.1 there.1 in
    here.2 ∙ ap ending_of same ∙ sym there.2

pub one_text : CoordinatorsStay → OneText
one_text law b s r attempt first second p q one other =
    let is = reached_is law b s r in
    let here = listed b is.0 s (Piece attempt first p) is.1 one in
    let there = listed b is.0 s (Piece attempt second q) is.1 other in
    let same : there.1 ≡ here.1 = same_text there.0 here.0 there.1 here.1 (is.1.settled.one_reply attempt _ _ there.2 here.2) in
    (here.1, here.3, subst (λ (text : List ℕ). HasBytesAt text second q) same there.3)
  where
    same_text : (x y : Answer) (u v : List ℕ) → Shown x u ≡ Shown y v → u ≡ v
    same_text x y u v e = cc

-- a frame that is delivered to an existing node is a step of it
handed_over : (s : ClosedState) (node : ℕ) (frame : Frame) (answer : Reaction) (new : ClosedState) → node < length s.workers + 1 → DeliversFrame s node frame answer new
    → StepsAt s node (Delivered frame) (Reacted answer) new
handed_over s node frame answer new known over = go over.happens
  where
    go : HappensDeliver s node over.place answer new → StepsAt s node (Delivered frame) (Reacted answer) new
    go (HappensDeliver.is_ignored (inl none) ignored) = absurd (omega (arith, none, known))
    go (HappensDeliver.is_ignored (inr none) ignored) = absurd (none_some frame (sym none ∙ over.there))
    go (HappensDeliver.delivers found at step) =
        subst (λ (f : Frame). StepsAt s node (Delivered f) (Reacted answer) new) (same_some found frame (sym at ∙ over.there)) step

-- and its reaction is no refusal
handed_plain : CoordinatorsStay → (b : Beginning) (T : History) (s : ClosedState) (node : ℕ) (frame : Frame) (answer : Reaction) (new : ClosedState) → IsHonestCluster b T s
    → DeliversFrame s node frame answer new → IsPlain answer
handed_plain law b T s node frame answer new is over = let kept = event_keeps law b T s (Deliver node over.place) answer new is over.happens in kept.2

-- the leaf of a job is one of the tree's
leaf_inside : (b : Beginning) (T : History) (s : ClosedState) (session number worker : ℕ) (j : Job) → IsHonestCluster b T s → IsAwaited s.coordinator session number worker j → j.leaf < length s.coordinator.leaves
leaf_inside b T s session number worker j is awaited =
    let job : IsHonestJob T s.coordinator worker j = is.honest.jobs worker j (job_from_1 s.coordinator worker j awaited.job) (job_desk s.coordinator worker j awaited.job) in
    slice_get_within s.coordinator.leaves j.leaf _ job.given

pub pieces_end_well : CoordinatorsStay → PiecesEndWell
pieces_end_well law b s r attempt offset bytes j x answer new over fits complete =
    let is = reached_is law b s r in
    let step = handed_over s 0 (Piece attempt offset bytes) answer new (omega arith) over in
    subst (λ (k : ClosedState). EndsWell x.evidence.finding j.leaf answer k.coordinator) (sym step.2)
    (piece_end s.coordinator attempt offset bytes j x answer step.0 (leaf_inside b is.0 s _ _ _ j is.1 fits.fetched.awaited) (handed_plain law b is.0 s 0 _ answer new is.1 over) fits complete step.1)

pub dones_end_well : CoordinatorsStay → DonesEndWell
dones_end_well law b s r attempt finding j answer new over awaited free empty =
    let is = reached_is law b s r in
    let step = handed_over s 0 (Done attempt (told.Decided finding)) answer new (omega arith) over in
    subst (λ (k : ClosedState). EndsWell finding j.leaf answer k.coordinator) (sym step.2)
    (done_end s.coordinator attempt finding j answer step.0 (leaf_inside b is.0 s _ _ _ j is.1 awaited) (handed_plain law b is.0 s 0 _ answer new is.1 over) awaited free empty step.1)

-- a frame that is delivered to a worker is a step of it
worker_gets : (s : ClosedState) (place : ℕ) (w : WorkerState) (frame : Frame) (answer : Reaction) (new : ClosedState) → slice_get s.workers place ≡ Some w → DeliversFrame s (suc place) frame answer new
    → (after : WorkerState) × WorkerDelivers w frame answer after
worker_gets s place w frame answer new member over =
    let within : place < length s.workers = slice_get_within s.workers place w member in
    let step = handed_over s (suc place) frame answer new (omega (arith, within)) over in
    (step.1, subst (λ (u : WorkerState). WorkerDelivers u frame answer step.1) (same_some step.0 w (sym step.2 ∙ member)) step.3)

pub parts_end_well : CoordinatorsStay → PartsEndWell
parts_end_well law b s r place w session part offset bytes c answer new over member fits complete =
    let is = reached_is law b s r in
    let gets = worker_gets s place w (Part session part offset bytes) answer new member over in
    part_end w session part offset bytes c answer gets.0 (handed_plain law b is.0 s (suc place) _ answer new is.1 over) fits complete gets.1

pub verdicts_end_well : CoordinatorsStay → VerdictsEndWell
verdicts_end_well law b s r place w session finding answer new over member news empty =
    let is = reached_is law b s r in
    let gets = worker_gets s place w (VerdictFrame session finding) answer new member over in
    verdict_end w session finding answer gets.0 (handed_plain law b is.0 s (suc place) _ answer new is.1 over) news empty gets.1
