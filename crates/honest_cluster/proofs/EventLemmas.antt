-- Every event of a closed schedule keeps the cluster's invariant, and none is refused.
use Rattle.std.proofs.Common.{◌≡◌, ◌≢◌, ℕ, zero, suc, ◌-◌, ◌<◌, List, [], ◌∷◌, ◌++◌, length, All, Contains, Some, None, slice_get, slice_set, get_or, replicate, refl, subst, sym, ap, ◌∙◌, ◌⊎◌, inl, inr, arith}
use Rattle.std.proofs.lemmas.List.{length-append}
use Rattle.std.proofs.lemmas.List.Elements.{All-weaker, All-push, Contains-append_left, Contains-push}
use Rattle.std.proofs.lemmas.Option.{slice_get_within, get_or_from_slice_get}
use Rattle.dimacs.specs.logic.Cnf.{Cnf, IsFormula}
use Rattle.icnf.specs.Leaves.{Cube, Leaves, leaf, fork}
use Rattle.lrat_check.specs.declared.verdict.Verdict.{Verdict}
use Rattle.lrat_check.specs.declared.verdict.Reaction.{Reaction}
use Rattle.lrat_check.specs.declared.verdict.Reaction.TheVariants as reaction
use Rattle.frames.specs.declared.frame.Attempt.{Attempt}
use Rattle.frames.specs.declared.frame.Frame.{Frame}
use Rattle.evidence.specs.declared.job.JobName.{JobName}
use Rattle.cube_split.specs.Definitions.{base_with}
use Rattle.cube_split.specs.Pairs.{Definitions}
use Rattle.worker_core.specs.Worker.{WorkerState, WorkerPolls, own_attempt, restarted_worker, worker_after}
use Rattle.worker_core.specs.declared.work.Work.{Work}
use Rattle.worker_core.specs.declared.work.Work.TheVariants.{Free, Pending, Limited, Found}
use Rattle.coordinator_core.specs.Coordinator.{CoordinatorState, CoordinatorStep, CoordinatorPolls, coordinator_base, restarted_coordinator}
use Rattle.coordinator_core.specs.declared.job_state.Job.{Job}
use Rattle.evidence.specs.Events.{Event, Delivered, Worked, Polled, Given, Reacted, Sent}
use Rattle.coordinator_core.specs.Invariant.{IsCoordinator}
use Rattle.coordinator_core.proofs.NewCoordinatorLemmas.{beginning, begins}
use Rattle.honest_cluster.specs.declared.event.ClosedEvent.{ClosedEvent}
use Rattle.honest_cluster.specs.declared.event.ClosedEvent.TheVariants.{Deliver, Work as WorkEvent, Poll as PollEvent, Restart}
use Rattle.honest_cluster.specs.ClosedSchedule.{Beginning, ClosedState, StepsAt, RestartsAt, HappensDeliver, HappensWork, HappensPoll, HappensRestart, HappensClosed, RunsClosed, with_worker, with_coordinator, with_frame, with_number}
use Rattle.honest_cluster.proofs.History.{History, Reply, IsTrueFrame, IsSettled, IsHonestWork, IsHonestWorker, IsHonestCoordinator, IsMember, AreUsed, IsHonestCluster, shared_base, asks, answers_so, decides}
use Rattle.honest_cluster.proofs.Places.{got_set_cases, none_some}
use Rattle.honest_cluster.proofs.HistoryLemmas.{IsPlain, plain_by, IsMore, as_much, told_stays}
use Rattle.honest_cluster.proofs.WorkerLemmas.{IsFine, delivery_fine}
use Rattle.honest_cluster.proofs.WorkLemmas.{OwnReplies, IsDefinedBase, work_fine, poll_told, poll_honest}
use Rattle.honest_cluster.proofs.CoordinatorLemmas.{OwnSayings, IsFair, frame_fair, job_stays}
use Rattle.honest_cluster.proofs.PollLemmas.{poll_fair}

-- a worker stays honest if others add to the history
others_told : (T U : History) (w : WorkerState) → IsMore T U → ((name : JobName) (r : Reply) → Contains U.answered (answers_so (own_attempt w name) r) → Contains T.answered (answers_so (own_attempt w name) r))
    → IsHonestWorker T w → IsHonestWorker U w
others_told T U w more back honest = record {
  work = still w.work honest.work;
  behind = λ name r h. honest.behind name r (back name r h);
  candidate = λ c e. let h = honest.candidate c e in (h.0, more.decided _ h.1, h.2);
  right = honest.right;
}
  where
    still : (k : Work) → IsHonestWork T w k → IsHonestWork U w k
    still Free h = h
    still (Pending name cube limit) h = (h.0, more.asked _ h.1)
    still (Limited name) h = (h.0, more.answered _ h.1)
    still (Found name answer bytes noted) h = (h.0, more.answered _ h.1, h.2)

-- and so does a coordinator if a worker adds to the history
reply_told : (T U : History) (w : WorkerState) (c : CoordinatorState) → OwnReplies T w U → IsHonestCoordinator T c → IsHonestCoordinator U c
reply_told T U w c own honest = record {
  jobs = λ worker j from_1 h. let was = honest.jobs worker j from_1 h in job_stays T U c c worker j own.more refl refl was.given was;
  next = λ name q h session. honest.next name q (own.asked _ h) session;
  decided = λ some. own.more.decided _ (honest.decided some);
  undecided = λ v h. honest.undecided v (own.decided _ h);
}

frames_stay : (T U : History) (limit : ℕ) (frames : List Frame) → IsMore T U → All (IsTrueFrame T limit) frames → All (IsTrueFrame U limit) frames
frames_stay T U limit frames more all = All-weaker (IsTrueFrame T limit) (IsTrueFrame U limit) (told_stays T U limit more) frames all

-- a worker stays a member if the coordinator adds to the history
member_stays : (b : Beginning) (T U : History) (c : CoordinatorState) (used : List ℕ) (i : ℕ) (w : WorkerState) → OwnSayings T c U → IsMember b T used i w → IsMember b U used i w
member_stays b T U c used i w own m = record {
  formula = m.formula;
  base = m.base;
  number = m.number;
  known = m.known;
  honest = others_told T U w own.more (λ name r h. own.answered _ h) m.honest;
}

-- or if another worker does
other_stays : (b : Beginning) (T U : History) (used : List ℕ) (i k : ℕ) (v w : WorkerState) → OwnReplies T v U → v.number ≡ suc k → i ≢ k → IsMember b T used i w → IsMember b U used i w
other_stays b T U used i k v w own number other m = record {
  formula = m.formula;
  base = m.base;
  number = m.number;
  known = m.known;
  honest = others_told T U w own.more (λ name r h. go name r (own.own _ r h)) m.honest;
}
  where
    go : (name : JobName) (r : Reply) → Contains T.answered (answers_so (own_attempt w name) r) ⊎ ((w.number ≡ v.number) × (w.incarnation ≡ v.incarnation)) → Contains T.answered (answers_so (own_attempt w name) r)
    go name r (inl h) = h
    go name r (inr h) = let e : suc i ≡ suc k = sym m.number ∙ h.0 ∙ number in absurd (other (omega (arith, e)))

used_by_coordinator : (T U : History) (c : CoordinatorState) (used : List ℕ) → OwnSayings T c U → Contains used c.session → AreUsed T used → AreUsed U used
used_by_coordinator T U c used own session known = record {
  asked = λ name q h. asked name q (own.asked name q h);
  answered = λ attempt r h. known.answered attempt r (own.answered _ h);
  decided = λ s v h. decided s v (own.decided s v h);
}
  where
    asked : (name : JobName) (q : Cube) → Contains T.asked (asks name q) ⊎ (name.session ≡ c.session) → Contains used name.session
    asked name q (inl h) = known.asked name q h
    asked name q (inr e) = subst (Contains used) (sym e) session

    decided : (s : ℕ) (v : Verdict) → Contains T.decided (decides s v) ⊎ (s ≡ c.session) → Contains used s
    decided s v (inl h) = known.decided s v h
    decided s v (inr e) = subst (Contains used) (sym e) session

used_by_worker : (T U : History) (w : WorkerState) (used : List ℕ) → OwnReplies T w U → Contains used w.incarnation → AreUsed T used → AreUsed U used
used_by_worker T U w used own incarnation known = record {
  asked = λ name q h. known.asked name q (own.asked _ h);
  answered = λ attempt r h. go attempt r (own.own attempt r h);
  decided = λ s v h. known.decided s v (own.decided _ h);
}
  where
    go : (attempt : Attempt) (r : Reply) → Contains T.answered (answers_so attempt r) ⊎ ((attempt.worker ≡ w.number) × (attempt.incarnation ≡ w.incarnation)) → Contains used attempt.incarnation
    go attempt r (inl h) = known.answered attempt r h
    go attempt r (inr e) = subst (Contains used) (sym e.1) incarnation

more_used : (T : History) (used : List ℕ) (number : ℕ) → AreUsed T used → AreUsed T (used ++ number ∷ [])
more_used T used number known = record {
  asked = λ name q h. Contains-append_left used (number ∷ []) name.session (known.asked name q h);
  answered = λ attempt r h. Contains-append_left used (number ∷ []) attempt.incarnation (known.answered attempt r h);
  decided = λ s v h. Contains-append_left used (number ∷ []) s (known.decided s v h);
}

member_later : (b : Beginning) (T : History) (used : List ℕ) (number i : ℕ) (w : WorkerState) → IsMember b T used i w → IsMember b T (used ++ number ∷ []) i w
member_later b T used number i w m = record {
  formula = m.formula;
  base = m.base;
  number = m.number;
  known = Contains-append_left used (number ∷ []) w.incarnation m.known;
  honest = m.honest;
}

-- an event at a worker leaves it a member
member_after : (b : Beginning) (T U : History) (used : List ℕ) (i : ℕ) (w after : WorkerState) (answer : Reaction) → IsMember b T used i w → IsFine U w answer after → IsMember b U used i after
member_after b T U used i w after answer m fine = record {
  formula = fine.formula ∙ m.formula;
  base = fine.base ∙ m.base;
  number = fine.number ∙ m.number;
  known = subst (Contains used) (sym fine.incarnation) m.known;
  honest = fine.honest;
}

-- the members after one of them changed
members_set : (b : Beginning) (U : History) (used : List ℕ) (workers : List WorkerState) (i : ℕ) (after : WorkerState) → IsMember b U used i after
    → ((k : ℕ) (w : WorkerState) → k ≢ i → slice_get workers k ≡ Some w → IsMember b U used k w)
    → (k : ℕ) (w : WorkerState) → slice_get (slice_set workers i after) k ≡ Some w → IsMember b U used k w
members_set b U used workers i after member others k w h = go (got_set_cases workers i k after w h)
  where
    go : ((k ≡ i) × (k < length workers) × (after ≡ w)) ⊎ ((k ≢ i) × (slice_get workers k ≡ Some w)) → IsMember b U used k w
    go (inl p) = subst (λ (n : ℕ). IsMember b U used n w) (sym p.0) (subst (IsMember b U used i) p.2 member)
    go (inr p) = others k w p.0 p.1

-- a tree has at least one leaf
leaves_some : {path : Cube} {list : List Cube} → Leaves path list → 0 < length list
leaves_some leaf = omega arith
leaves_some (fork {left = left} {right = right} x free first second) = let some : 0 < length left = leaves_some first in omega (arith, some, length-append left right)

-- a new coordinator is honest if nothing in the history is of its session
pub new_honest : (T : History) (F : Cnf) (d : Definitions) (tree : List Cube) (limit n session : ℕ) → ((name : JobName) (q : Cube) → Contains T.asked (asks name q) → name.session ≡ session → ⊥)
    → ((v : Verdict) → Contains T.decided (decides session v) → ⊥) → IsHonestCoordinator T (beginning F d tree limit n session)
new_honest T F d tree limit n session not_asked not_decided = record {
  jobs = λ worker j from_1 h. absurd (no_job n (worker - 1) j h);
  next = λ name q h e. absurd (not_asked name q h e);
  decided = λ some. absurd (some refl);
  undecided = λ v h. absurd (not_decided v h);
}
  where
    no_job : (k i : ℕ) (j : Job) → get_or (replicate k None) i None ≡ Some j → ⊥
    no_job zero i j h = cc
    no_job (suc k) zero j h = cc
    no_job (suc k) (suc i) j h = no_job k i j h

-- every step keeps a coordinator's invariant
abbrev pub CoordinatorsStay : Type 0
CoordinatorsStay = (old : CoordinatorState) (event : Event) (given : Given) (new : CoordinatorState) → CoordinatorStep old event given new → IsCoordinator old → IsCoordinator new

-- what an event leaves
abbrev pub Keeps : Beginning → Reaction → ClosedState → Type 0
Keeps b answer new = (U : History) × IsHonestCluster b U new × IsPlain answer

nothing_new : (b : Beginning) (T : History) (s : ClosedState) (answer r : Reaction) (new : ClosedState) → IsHonestCluster b T s → answer ≡ r → IsPlain r → new ≡ s → Keeps b answer new
nothing_new b T s answer r new is a plain same = (T, subst (IsHonestCluster b T) (sym same) is, plain_by answer r a plain)

-- the history is settled for a node's own formula and base
settled_for : {F f : Cnf} (B base : Cnf) (T : History) → f ≡ F → base ≡ B → IsSettled F B T → IsSettled f base T
settled_for {F} {f} B base T same over settled = subst (λ (g : Cnf). IsSettled g base T) (sym same) (subst (λ (k : Cnf). IsSettled F k T) (sym over) settled)

shared : (b : Beginning) (c : CoordinatorState) → c.formula ≡ b.formula → c.definitions ≡ b.definitions → coordinator_base c ≡ shared_base b
shared b c same defined = ap (λ (F : Cnf). base_with F c.definitions.pairs) same ∙ ap (λ (d : Definitions). base_with b.formula d.pairs) defined

settled_there : (b : Beginning) (T : History) (s : ClosedState) → IsHonestCluster b T s → IsSettled s.coordinator.formula (coordinator_base s.coordinator) T
settled_there b T s is = settled_for (shared_base b) (coordinator_base s.coordinator) T is.formula (shared b s.coordinator is.formula is.definitions) is.settled

settled_at : (b : Beginning) (T : History) (s : ClosedState) (i : ℕ) (w : WorkerState) → IsHonestCluster b T s → IsMember b T s.used i w → IsSettled w.formula w.base T
settled_at b T s i w is m = settled_for (shared_base b) w.base T m.formula m.base is.settled

-- the coordinator changed, and added to the history
coordinator_keeps : (b : Beginning) (T U : History) (s : ClosedState) (answer : Reaction) (c : CoordinatorState) → IsHonestCluster b T s
    → OwnSayings T s.coordinator U → IsSettled s.coordinator.formula (coordinator_base s.coordinator) U → IsFair U s.coordinator answer c → IsCoordinator c → IsHonestCluster b U (with_coordinator s c)
coordinator_keeps b T U s answer c is own settled fair is_c = record {
  settled = settled_for (coordinator_base s.coordinator) (shared_base b) U (sym is.formula) (sym (shared b s.coordinator is.formula is.definitions)) settled;
  formula = fair.formula ∙ is.formula;
  definitions = fair.definitions ∙ is.definitions;
  limit_is = fair.limit ∙ is.limit_is;
  session = subst (Contains s.used) (sym fair.session) is.session;
  coordinator = is_c;
  honest = fair.honest;
  workers = λ i w h. member_stays b T U s.coordinator s.used i w own (is.workers i w h);
  frames = frames_stay T U b.limit s.frames own.more is.frames;
  used = used_by_coordinator T U s.coordinator s.used own is.session is.used;
}

-- a worker changed, and added to the history
worker_keeps : (b : Beginning) (T U : History) (s : ClosedState) (answer : Reaction) (i : ℕ) (w after : WorkerState) → IsHonestCluster b T s → slice_get s.workers i ≡ Some w
    → OwnReplies T w U → IsSettled w.formula w.base U → IsFine U w answer after → IsHonestCluster b U (with_worker s i after)
worker_keeps b T U s answer i w after is at own settled fine = record {
  settled = settled_for w.base (shared_base b) U (sym m.formula) (sym m.base) settled;
  formula = is.formula;
  definitions = is.definitions;
  limit_is = is.limit_is;
  session = is.session;
  coordinator = is.coordinator;
  honest = reply_told T U w s.coordinator own is.honest;
  workers = members_set b U s.used s.workers i after (member_after b T U s.used i w after answer m fine)
      (λ k v other h. other_stays b T U s.used k i w v own m.number other (is.workers k v h));
  frames = frames_stay T U b.limit s.frames own.more is.frames;
  used = used_by_worker T U w s.used own m.known is.used;
}
  where
    m : IsMember b T s.used i w
    m = is.workers i w at

no_replies : (T : History) (w : WorkerState) → OwnReplies T w T
no_replies T w = record { more = as_much T; asked = λ a h. h; decided = λ d h. h; own = λ attempt r h. inl h }

-- a frame that is sent is appended to the list
frame_keeps : (b : Beginning) (T : History) (s : ClosedState) (frame : Frame) → IsHonestCluster b T s → IsTrueFrame T b.limit frame → IsHonestCluster b T (with_frame s frame)
frame_keeps b T s frame is told = record {
  settled = is.settled;
  formula = is.formula;
  definitions = is.definitions;
  limit_is = is.limit_is;
  session = is.session;
  coordinator = is.coordinator;
  honest = is.honest;
  workers = is.workers;
  frames = All-push (IsTrueFrame T b.limit) s.frames frame is.frames told;
  used = is.used;
}

-- the frame at a place is true
pub frame_at : (b : Beginning) (T : History) (s : ClosedState) (place : ℕ) (frame : Frame) → IsHonestCluster b T s → slice_get s.frames place ≡ Some frame → IsTrueFrame T b.limit frame
frame_at b T s place frame is at =
    subst (IsTrueFrame T b.limit) (get_or_from_slice_get s.frames place frame frame at) (is.frames place frame (slice_get_within s.frames place frame at))

delivered_keeps : CoordinatorsStay → (b : Beginning) (T : History) (s : ClosedState) (node : ℕ) (frame : Frame) (answer : Reaction) (new : ClosedState)
    → IsHonestCluster b T s → IsTrueFrame T b.limit frame → StepsAt s node (Delivered frame) (Reacted answer) new → Keeps b answer new
delivered_keeps law b T s zero frame answer new is told (c, step, now) =
    let is_c : IsCoordinator c = law s.coordinator (Delivered frame) (Reacted answer) c step is.coordinator in
    let h = frame_fair T b.limit s.coordinator frame answer c (settled_there b T s is) is.honest is_c told step in
    (h.0, subst (IsHonestCluster b h.0) (sym now) (coordinator_keeps b T h.0 s answer c is h.1 h.2 h.3 is_c), h.3.plain)
delivered_keeps law b T s (suc i) frame answer new is told (w, after, there, step, now) =
    let m : IsMember b T s.used i w = is.workers i w there in
    let settled : IsSettled w.formula w.base T = settled_at b T s i w is m in
    let fine : IsFine T w answer after = delivery_fine T b.limit w frame answer after settled m.honest told step in
    (T, subst (IsHonestCluster b T) (sym now) (worker_keeps b T T s answer i w after is there (no_replies T w) settled fine), fine.plain)

deliver_keeps : CoordinatorsStay → (b : Beginning) (T : History) (s : ClosedState) (node place : ℕ) (answer : Reaction) (new : ClosedState)
    → IsHonestCluster b T s → HappensDeliver s node place answer new → Keeps b answer new
deliver_keeps law b T s node place answer new is (HappensDeliver.is_ignored none ignored) = nothing_new b T s answer _ new is ignored.0 tt ignored.1
deliver_keeps law b T s node place answer new is (HappensDeliver.delivers frame found step) =
    delivered_keeps law b T s node frame answer new is (frame_at b T s place frame is found) step

-- the base of a worker is one with definitions of its formula
worker_base : (b : Beginning) (T : History) (s : ClosedState) (i : ℕ) (w : WorkerState) → IsHonestCluster b T s → IsMember b T s.used i w → IsDefinedBase w.formula w.base
worker_base b T s i w is m = record {
  limits = subst IsFormula (is.formula ∙ sym m.formula) is.coordinator.grounds.formula;
  pairs = b.definitions.pairs;
  is = m.base ∙ ap (λ (F : Cnf). base_with F b.definitions.pairs) (sym m.formula);
}

worked_keeps : (b : Beginning) (T : History) (s : ClosedState) (node : ℕ) (answer : Reaction) (new : ClosedState)
    → IsHonestCluster b T s → StepsAt s node Worked (Reacted answer) new → Keeps b answer new
worked_keeps b T s zero answer new is (c, step, now) = absurd step
worked_keeps b T s (suc i) answer new is (w, after, there, step, now) =
    let m : IsMember b T s.used i w = is.workers i w there in
    let h = work_fine T w answer after (worker_base b T s i w is m) (settled_at b T s i w is m) m.honest step in
    (h.0, subst (IsHonestCluster b h.0) (sym now) (worker_keeps b T h.0 s answer i w after is there h.1 h.2 h.3), h.3.plain)

work_keeps : (b : Beginning) (T : History) (s : ClosedState) (node : ℕ) (answer : Reaction) (new : ClosedState)
    → IsHonestCluster b T s → HappensWork s node answer new → Keeps b answer new
work_keeps b T s node answer new is (HappensWork.is_ignored none ignored) = nothing_new b T s answer _ new is ignored.0 tt ignored.1
work_keeps b T s node answer new is (HappensWork.works step) = worked_keeps b T s node answer new is step

-- a coordinator that was polled, with its frame in the list
coordinator_polled : CoordinatorsStay → (b : Beginning) (T : History) (s : ClosedState) (worker : ℕ) (frame : Frame) (c : CoordinatorState)
    → IsHonestCluster b T s → CoordinatorStep s.coordinator (Polled worker) (Sent frame) c → (U : History) × IsHonestCluster b U (with_frame (with_coordinator s c) frame)
coordinator_polled law b T s worker frame c is step = go step.1
  where
    same_frame : (f g : Frame) → Sent f ≡ Sent g → f ≡ g
    same_frame f g e = cc

    never : (f : Frame) → Sent f ≡ Reacted reaction.NoMemory → ⊥
    never f e = cc

    go : CoordinatorPolls s.coordinator worker (Sent frame) c → (U : History) × IsHonestCluster b U (with_frame (with_coordinator s c) frame)
    go (CoordinatorPolls.no_memory grows a now) = absurd (never frame a)
    go (CoordinatorPolls.sends sent now) =
        let h = poll_fair T b.limit s.coordinator worker (settled_there b T s is) is.honest is.coordinator is.limit_is step.0.0 in
        let fair : IsFair h.0 s.coordinator reaction.Taken c = subst (IsFair h.0 s.coordinator reaction.Taken) (sym now) h.4 in
        let told : IsTrueFrame h.0 b.limit frame = subst (IsTrueFrame h.0 b.limit) (sym (same_frame _ _ sent)) h.3 in
        let is_c : IsCoordinator c = law s.coordinator (Polled worker) (Sent frame) c step is.coordinator in
        (h.0, frame_keeps b h.0 (with_coordinator s c) frame (coordinator_keeps b T h.0 s reaction.Taken c is h.1 h.2 fair is_c) told)

-- a worker that was polled, with its frame in the list
worker_polled : (b : Beginning) (T : History) (s : ClosedState) (i worker : ℕ) (frame : Frame) (w after : WorkerState) → IsHonestCluster b T s
    → slice_get s.workers i ≡ Some w → WorkerPolls w (Sent frame) after → IsHonestCluster b T (with_frame (with_worker s i after) frame)
worker_polled b T s i worker frame w after is there (WorkerPolls.no_memory grows a now) = absurd (never frame a)
  where
    never : (f : Frame) → Sent f ≡ Reacted reaction.NoMemory → ⊥
    never f e = cc
worker_polled b T s i worker frame w after is there (WorkerPolls.sends sent now) =
    let m : IsMember b T s.used i w = is.workers i w there in
    let fine : IsFine T w reaction.Taken (worker_after w) = record { honest = poll_honest T w m.honest; plain = tt; formula = refl; base = refl; number = refl; incarnation = refl } in
    let told : IsTrueFrame T b.limit frame = subst (IsTrueFrame T b.limit) (sym (same_frame _ _ sent)) (poll_told T b.limit w m.honest) in
    frame_keeps b T (with_worker s i after) frame
    (worker_keeps b T T s reaction.Taken i w after is there (no_replies T w) (settled_at b T s i w is m) (subst (IsFine T w reaction.Taken) (sym now) fine)) told
  where
    same_frame : (f g : Frame) → Sent f ≡ Sent g → f ≡ g
    same_frame f g e = cc

polled_keeps : CoordinatorsStay → (b : Beginning) (T : History) (s : ClosedState) (node worker : ℕ) (frame : Frame) (after : ClosedState)
    → IsHonestCluster b T s → StepsAt s node (Polled worker) (Sent frame) after → (U : History) × IsHonestCluster b U (with_frame after frame)
polled_keeps law b T s zero worker frame after is (c, step, now) =
    let h = coordinator_polled law b T s worker frame c is step in (h.0, subst (λ (n : ClosedState). IsHonestCluster b h.0 (with_frame n frame)) (sym now) h.1)
polled_keeps law b T s (suc i) worker frame after is (w, v, there, step, now) =
    (T, subst (λ (n : ClosedState). IsHonestCluster b T (with_frame n frame)) (sym now) (worker_polled b T s i worker frame w v is there step))

poll_keeps : CoordinatorsStay → (b : Beginning) (T : History) (s : ClosedState) (node worker : ℕ) (answer : Reaction) (new : ClosedState)
    → IsHonestCluster b T s → HappensPoll s node worker answer new → Keeps b answer new
poll_keeps law b T s node worker answer new is (HappensPoll.is_ignored none ignored) = nothing_new b T s answer _ new is ignored.0 tt ignored.1
poll_keeps law b T s node worker answer new is (HappensPoll.no_memory poll a now) = nothing_new b T s answer _ new is a tt now
poll_keeps law b T s node worker answer new is (HappensPoll.sends frame after step a now) =
    let h = polled_keeps law b T s node worker frame after is step in (h.0, subst (IsHonestCluster b h.0) (sym now) h.1, plain_by answer _ a tt)

-- the coordinator is restarted: nothing in the history is of its new session
coordinator_anew : (b : Beginning) (T : History) (s : ClosedState) (number : ℕ) → IsHonestCluster b T s → ¬ (Contains s.used number)
    → IsHonestCluster b T (with_number (with_coordinator s (restarted_coordinator s.coordinator number)) number)
coordinator_anew b T s number is fresh = record {
  settled = is.settled;
  formula = is.formula;
  definitions = is.definitions;
  limit_is = is.limit_is;
  session = Contains-push s.used number;
  coordinator = begins s.coordinator.formula s.coordinator.definitions s.coordinator.initial_tree s.coordinator.limit (length s.coordinator.jobs) number is.coordinator.grounds.formula
      is.coordinator.grounds.defined is.coordinator.grounds.initial_is is.coordinator.tables.some_worker is.coordinator.tables.few_workers;
  honest = new_honest T s.coordinator.formula s.coordinator.definitions s.coordinator.initial_tree s.coordinator.limit (length s.coordinator.jobs) number
      (λ name q h e. fresh (subst (Contains s.used) e (is.used.asked name q h)))
      (λ v h. fresh (is.used.decided number v h));
  workers = λ i w h. member_later b T s.used number i w (is.workers i w h);
  frames = is.frames;
  used = more_used T s.used number is.used;
}

-- a worker is restarted: nothing in the history is of its new incarnation
worker_anew : (b : Beginning) (T : History) (s : ClosedState) (i number : ℕ) (w : WorkerState) → IsHonestCluster b T s → slice_get s.workers i ≡ Some w → ¬ (Contains s.used number)
    → IsHonestCluster b T (with_number (with_worker s i (restarted_worker w number)) number)
worker_anew b T s i number w is there fresh = record {
  settled = is.settled;
  formula = is.formula;
  definitions = is.definitions;
  limit_is = is.limit_is;
  session = Contains-append_left s.used (number ∷ []) s.coordinator.session is.session;
  coordinator = is.coordinator;
  honest = is.honest;
  workers = members_set b T (s.used ++ number ∷ []) s.workers i (restarted_worker w number)
      (record {
        formula = m.formula;
        base = m.base;
        number = m.number;
        known = Contains-push s.used number;
        honest = record {
          work = tt;
          behind = λ name r h. absurd (fresh (is.used.answered _ r h));
          candidate = λ c e. absurd (none_some c e);
          right = tt;
        };
      })
      (λ k v other h. member_later b T s.used number k v (is.workers k v h));
  frames = is.frames;
  used = more_used T s.used number is.used;
}
  where
    m : IsMember b T s.used i w
    m = is.workers i w there

anew_keeps : (b : Beginning) (T : History) (s : ClosedState) (node number : ℕ) (after : ClosedState) → IsHonestCluster b T s → ¬ (Contains s.used number)
    → RestartsAt s node number after → IsHonestCluster b T (with_number after number)
anew_keeps b T s zero number after is fresh now =
    subst (λ (n : ClosedState). IsHonestCluster b T (with_number n number)) (sym now) (coordinator_anew b T s number is fresh)
anew_keeps b T s (suc i) number after is fresh (w, there, now) =
    subst (λ (n : ClosedState). IsHonestCluster b T (with_number n number)) (sym now) (worker_anew b T s i number w is there fresh)

restart_keeps : (b : Beginning) (T : History) (s : ClosedState) (node number : ℕ) (answer : Reaction) (new : ClosedState)
    → IsHonestCluster b T s → HappensRestart s node number answer new → Keeps b answer new
restart_keeps b T s node number answer new is (HappensRestart.is_ignored none ignored) = nothing_new b T s answer _ new is ignored.0 tt ignored.1
restart_keeps b T s node number answer new is (HappensRestart.no_memory node_is fresh a now) = nothing_new b T s answer _ new is a tt now
restart_keeps b T s node number answer new is (HappensRestart.anew after fresh restarts a now) =
    (T, subst (IsHonestCluster b T) (sym now) (anew_keeps b T s node number after is fresh restarts), plain_by answer _ a tt)

-- every event keeps the invariant of a closed cluster, and is not refused
pub event_keeps : CoordinatorsStay → (b : Beginning) (T : History) (s : ClosedState) (event : ClosedEvent) (answer : Reaction) (new : ClosedState)
    → IsHonestCluster b T s → HappensClosed s event answer new → Keeps b answer new
event_keeps law b T s (Deliver node place) answer new is step = deliver_keeps law b T s node place answer new is step
event_keeps law b T s (WorkEvent node) answer new is step = work_keeps b T s node answer new is step
event_keeps law b T s (PollEvent node worker) answer new is step = poll_keeps law b T s node worker answer new is step
event_keeps law b T s (Restart node number) answer new is step = restart_keeps b T s node number answer new is step

-- and so does every run
pub run_keeps : CoordinatorsStay → (b : Beginning) (T : History) (s : ClosedState) (events : List ClosedEvent) (new : ClosedState)
    → IsHonestCluster b T s → RunsClosed s events new → (U : History) × IsHonestCluster b U new
run_keeps law b T s [] new is same = (T, subst (IsHonestCluster b T) (sym same) is)
run_keeps law b T s (event ∷ events) new is (answer, mid, happens, runs) =
    let h = event_keeps law b T s event answer mid is happens in run_keeps law b h.0 mid events new h.1 runs
