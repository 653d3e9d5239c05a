-- What a poll gives, and frames that are delivered one by one.
use Rattle.std.proofs.Common.{◌≡◌, ℕ, Bool, true, false, List, [], ◌∷◌, Option, Some, None, Result, Ok, Err, refl, subst, sym, ◌∙◌, IfOk, OnOk, OnErr, ◌^◌}
use Rattle.std.specs.Prelude.{nat_lt, position, IsSome, IsSomeAnd, ◌≢◌}
use Rattle.lrat_check.specs.declared.verdict.Reaction.TheVariants as reaction
use Rattle.lrat_check.specs.declared.verdict.Verdict.{Verdict}
use Rattle.lrat_check.specs.declared.verdict.Verdict.TheVariants.{Nothing, Model, Proof}
use Rattle.frames.specs.Stream.{Progress, TakesPiece}
use Rattle.frames.specs.declared.frame.Frame.{Frame}
use Rattle.frames.specs.declared.frame.Frame.TheVariants.{Idle, Rest}
use Rattle.evidence.specs.Events.{Sent, Reacted, given_by}
use Rattle.coordinator_core.specs.declared.job_state.Fixed.{Fixed}
use Rattle.coordinator_core.specs.declared.job_state.Job.{Job}
use Rattle.event_loop.specs.declared.connection.Connection.{Connection}
use Rattle.event_loop.specs.Ending.{is_decided}
use Rattle.event_loop.specs.declared.connection.Broken.{Broken}
use Rattle.event_loop.specs.declared.connection.Broken.TheVariants.{Closed, NoMemory}
use Rattle.event_loop.specs.inner.Connections.{one_if_closed}
use Rattle.event_loop.specs.inner.Registrations.{connection_at, idle_in, registered_worker}
use Rattle.event_loop.specs.inner.Deliveries.{AreDelivered, BytesHandled, IdleHaveNothing, HasNothing, PolledFor, FrameHandled, BytesHandledAt, IsNextDelivered, NobodyIdle, is_own}
use Rattle.coordinator_core.specs.Coordinator.{CoordinatorState, CoordinatorPolls, coordinator_poll, poll_by, stuck_poll, job_poll, fixed_poll, leaf_poll, verdict_poll, want_at, job_at, is_open}

polled : (c : CoordinatorState) (worker : ℕ) (frame : Frame) (new : CoordinatorState) → CoordinatorPolls c worker (Sent frame) new
    → (frame ≡ (coordinator_poll c worker).frame) × (new ≡ (coordinator_poll c worker).after)
polled c worker frame new (CoordinatorPolls.sends sent now) = (cc, now)
polled c worker frame new (CoordinatorPolls.no_memory grows sent now) = absurd (cc)

not_polled : (c : CoordinatorState) (worker : ℕ) (new : CoordinatorState) → CoordinatorPolls c worker (Reacted reaction.NoMemory) new → new ≡ c
not_polled c worker new (CoordinatorPolls.sends sent now) = absurd (cc)
not_polled c worker new (CoordinatorPolls.no_memory grows sent now) = now

-- what a poll has given
pub record IsPolled {E : Type 0} (c : CoordinatorState) (worker : ℕ) (given : Result Frame E) (new : CoordinatorState) : Type 0 where
  pub frame : IfOk given (λ frame. frame ≡ (coordinator_poll c worker).frame)
  pub after : OnOk given (new ≡ (coordinator_poll c worker).after)
  pub err : OnErr given (new ≡ c)

pub is_polled : {E : Type 0} (c : CoordinatorState) (worker : ℕ) (given : Result Frame E) (new : CoordinatorState) → CoordinatorPolls c worker (given_by given) new
    → IsPolled c worker given new
is_polled c worker (Ok frame) new polls = let told = polled c worker frame new polls in record { frame = told.0; after = told.1; err = tt }
is_polled c worker (Err fault) new polls = record { frame = tt; after = tt; err = not_polled c worker new polls }

-- a poll that gives Rest changes nothing
rest_verdict : (c : CoordinatorState) (worker : ℕ) (want : Option ℕ) → (verdict_poll c worker want).frame ≡ Rest → (verdict_poll c worker want).after ≡ c
rest_verdict c worker (Some offset) rest = cc
rest_verdict c worker None rest = refl

rest_fixed : (c : CoordinatorState) (worker : ℕ) (j : Job) (fixed : Option Fixed) → (fixed_poll c worker j fixed).frame ≡ Rest → (fixed_poll c worker j fixed).after ≡ c
rest_fixed c worker j (Some x) rest = refl
rest_fixed c worker j None rest = refl

rest_leaf : (c : CoordinatorState) (worker : ℕ) (has_number : Bool) (leaf : Option ℕ) → (leaf_poll c worker has_number leaf).frame ≡ Rest
    → (leaf_poll c worker has_number leaf).after ≡ c
rest_leaf c worker true (Some leaf) rest = cc
rest_leaf c worker true None rest = refl
rest_leaf c worker false leaf rest = refl

rest_job : (c : CoordinatorState) (worker : ℕ) (job : Option Job) → (job_poll c worker job).frame ≡ Rest → (job_poll c worker job).after ≡ c
rest_job c worker (Some j) rest = rest_fixed c worker j j.fixed rest
rest_job c worker None rest = rest_leaf c worker (nat_lt c.next (2 ^ 64)) (position is_open c.leaves) rest

rest_stuck : (c : CoordinatorState) (worker : ℕ) (stuck : Bool) → (stuck_poll c worker stuck).frame ≡ Rest → (stuck_poll c worker stuck).after ≡ c
rest_stuck c worker true rest = refl
rest_stuck c worker false rest = rest_job c worker (job_at c worker) rest

rest_by : (c : CoordinatorState) (worker : ℕ) (verdict : Verdict) → (poll_by c worker verdict).frame ≡ Rest → (poll_by c worker verdict).after ≡ c
rest_by c worker Nothing rest = rest_stuck c worker c.stuck rest
rest_by c worker (Model values) rest = rest_verdict c worker (want_at c worker) rest
rest_by c worker (Proof text) rest = rest_verdict c worker (want_at c worker) rest

rest_same : (c : CoordinatorState) (worker : ℕ) → (coordinator_poll c worker).frame ≡ Rest → (coordinator_poll c worker).after ≡ c
rest_same c worker rest = rest_by c worker c.verdict rest

-- the coordinator was polled for the worker that is registered
pub asked_on : {E : Type 0} (turn : Result (Unit {0}) E) (owner : Option ℕ) (worker : ℕ) (c d : CoordinatorState) → owner ≡ Some worker
    → d ≡ (coordinator_poll c worker).after → OnOk turn (PolledFor owner c d)
asked_on (Ok x) owner worker c d owner_is after = subst (λ (k : Option ℕ). PolledFor k c d) (sym owner_is) after
asked_on (Err fault) owner worker c d owner_is after = tt

pub nobody_is_idle : {E : Type 0} (turn : Result (Unit {0}) E) (idle : Option ℕ) (c : CoordinatorState) → idle ≡ None
    → OnOk turn ((worker : ℕ) → idle ≡ Some worker → HasNothing c worker)
nobody_is_idle (Ok x) idle c none = λ worker is. absurd (cc)
nobody_is_idle (Err fault) idle c none = tt

-- there is nothing to do for a worker that is idle now
pub has_nothing : (c d : CoordinatorState) (worker : ℕ) (idle : Option ℕ) → (coordinator_poll c worker).frame ≡ Rest → d ≡ (coordinator_poll c worker).after
    → idle ≡ Some worker → (w : ℕ) → idle ≡ Some w → HasNothing d w
has_nothing c d worker idle rest after is_idle w is =
    let who : worker ≡ w = cc in
    subst (λ (v : ℕ). HasNothing d v) who (subst (λ (k : CoordinatorState). HasNothing k worker) (sym (after ∙ rest_same c worker rest)) rest)

-- a frame was handled, and then the coordinator polled
pub next_delivered : {E : Type 0} (turn : Result (Unit {0}) E) (owner asked : Option ℕ) (frame : Frame) (old handled told : CoordinatorState) → asked ≡ owner
    → is_own owner frame ≡ true → FrameHandled frame old handled → OnOk turn (PolledFor asked handled told) → OnOk turn (IsNextDelivered owner frame old told)
next_delivered (Ok x) owner asked frame old handled told owner_is own is_handled is_asked = λ frames after rest.
    (handled, told, own, is_handled, subst (λ (worker : Option ℕ). PolledFor worker handled told) owner_is is_asked, rest)
next_delivered (Err fault) owner asked frame old handled told owner_is own is_handled is_asked = tt

-- one more of the frames that wait was delivered
pub delivered_on : (owner asked : Option ℕ) (frame : Frame) (waiting left after : List Frame) (old told new : CoordinatorState) → waiting ≡ frame ∷ left → after ≡ left
    → asked ≡ owner → IsNextDelivered asked frame old told → AreDelivered owner after told new → AreDelivered owner waiting old new
delivered_on owner asked frame waiting left after old told new first same owner_is next rest =
    subst (λ (frames : List Frame). AreDelivered owner frames old new) (sym first)
    (subst (λ (worker : Option ℕ). IsNextDelivered worker frame old told) owner_is next left new (subst (λ (frames : List Frame). AreDelivered owner frames told new) same rest))

pub none_left : (owner : Option ℕ) (frames : List Frame) (c : CoordinatorState) → frames ≡ [] → AreDelivered owner frames c c
none_left owner frames c none = subst (λ (waiting : List Frame). AreDelivered owner waiting c c) (sym none) refl

-- the first frame of a connection was delivered, and then those that wait
pub delivered_first : {E : Type 0} (turn : Result (Unit {0}) E) (queued owner asked : Option ℕ) (worker own incarnation : ℕ) (waiting left : List Frame)
    (old told new : CoordinatorState) → queued ≡ Some worker → owner ≡ Some worker → asked ≡ owner → own ≡ incarnation → left ≡ waiting
    → IsNextDelivered owner (Idle worker own) old told → OnOk turn (AreDelivered asked left told new)
    → OnOk turn ((w : ℕ) → queued ≡ Some w → AreDelivered (Some w) (Idle w incarnation ∷ waiting) old new)
delivered_first (Err fault) queued owner asked worker own incarnation waiting left old told new is_queued owner_is same is_own all next rest = tt
delivered_first (Ok x) queued owner asked worker own incarnation waiting left old told new is_queued owner_is same is_own all next rest = λ w is.
    let who : worker ≡ w = cc in
    let behind = subst (λ (frames : List Frame). AreDelivered (Some worker) frames told new) all (subst (λ (k : Option ℕ). AreDelivered k left told new) (same ∙ owner_is) rest) in
    let first = subst (λ (i : ℕ). IsNextDelivered (Some worker) (Idle worker i) old told) is_own (subst (λ (k : Option ℕ). IsNextDelivered k (Idle worker own) old told) owner_is next) in
    subst (λ (v : ℕ). AreDelivered (Some v) (Idle v incarnation ∷ waiting) old new) who (first waiting new behind)

-- bytes of a registered worker were taken, and their frames delivered
pub handled_by : {E : Type 0} (turn : Result (Unit {0}) E) (bytes : List ℕ) (old mid new : Connection) (before after : CoordinatorState)
    → TakesPiece old.reader bytes old.waiting.items mid.waiting.items (Ok tt) mid.reader → new.reader ≡ mid.reader → registered_worker mid ≡ registered_worker old
    → OnOk turn (new.waiting.items ≡ []) → OnOk turn (AreDelivered (registered_worker mid) mid.waiting.items before after)
    → OnOk turn (IsSome (registered_worker old) → BytesHandled bytes old new before after)
handled_by (Err fault) bytes old mid new before after came same owner none given = tt
handled_by (Ok x) bytes old mid new before after came same owner none given = λ some. record {
  frames = mid.waiting.items;
  came = subst (λ (r : Progress). TakesPiece old.reader bytes old.waiting.items mid.waiting.items (Ok tt) r) (sym same) came;
  delivered = subst (λ (k : Option ℕ). AreDelivered k mid.waiting.items before after) owner given;
  none_waits = none;
}

-- what a turn with these bytes has changed at a place
pub settled_handled : {E : Type 0} (turn : Result (Unit {0}) Broken) (result : Result (Unit {0}) E) (bytes : List ℕ) (old told : Connection) (connection : Option Connection) (b c d : CoordinatorState)
    → OnOk turn (IsSome (registered_worker old) → BytesHandled bytes old told b c) → (turn ≡ Err Closed → connection ≡ None) → OnOk result (turn ≢ Err NoMemory)
    → (one_if_closed turn ≡ 0 → (connection ≡ Some told) × (d ≡ c)) → OnOk result (BytesHandledAt bytes (Some old) connection b d)
settled_handled turn (Err fault) bytes old told connection b c d handled closed memory same = tt
settled_handled (Ok x) (Ok y) bytes old told connection b c d handled closed memory same =
    subst (λ (l : Option Connection). BytesHandledAt bytes (Some old) l b d) (sym (same refl).0)
    (λ some. subst (λ (k : CoordinatorState). BytesHandled bytes old told b k) (sym (same refl).1) (handled some))
settled_handled (Err Closed) (Ok y) bytes old told connection b c d handled closed memory same =
    subst (λ (l : Option Connection). BytesHandledAt bytes (Some old) l b d) (sym (closed refl)) tt
settled_handled (Err NoMemory) (Ok y) bytes old told connection b c d handled closed memory same = absurd (memory refl)

-- after a verdict a poll never gives Rest
decided_verdict : (c : CoordinatorState) (worker : ℕ) (want : Option ℕ) → (verdict_poll c worker want).frame ≡ Rest → ⊥
decided_verdict c worker (Some offset) rest = cc
decided_verdict c worker None rest = cc

decided_by : (c : CoordinatorState) (worker : ℕ) (verdict : Verdict) → is_decided verdict ≡ true → (poll_by c worker verdict).frame ≡ Rest → ⊥
decided_by c worker Nothing decided rest = cc
decided_by c worker (Model values) decided rest = decided_verdict c worker (want_at c worker) rest
decided_by c worker (Proof text) decided rest = decided_verdict c worker (want_at c worker) rest

some_rests : (idle : Option ℕ) (c : CoordinatorState) → is_decided c.verdict ≡ true → IsSomeAnd idle (HasNothing c) → ⊥
some_rests None c decided rests = absurd rests
some_rests (Some worker) c decided rests = decided_by c worker c.verdict decided rests

pub decided_none_idle : (slots : List (Option Connection)) (c : CoordinatorState) → IdleHaveNothing slots c → is_decided c.verdict ≡ true → NobodyIdle slots 255
decided_none_idle slots c (IdleHaveNothing.nobody none) decided = none
decided_none_idle slots c (IdleHaveNothing.one place rests) decided = absurd (some_rests (idle_in (connection_at slots place)) c decided rests)
