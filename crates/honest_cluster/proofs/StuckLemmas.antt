-- Why a coordinator is stuck.
use Rattle.std.proofs.Common.{◌≡◌, ◌≢◌, ℕ, zero, suc, ◌+◌, ◌-◌, ◌<◌, ◌≤◌, Bool, true, false, List, [], ◌∷◌, ◌++◌, length, Contains, Option, Some, None, slice_get, get_or, refl, subst, sym, ap, ◌∙◌, ◌⊎◌, inl, inr}
use Rattle.std.proofs.lemmas.List.Elements.{Contains-append_left}
use Rattle.std.proofs.lemmas.Option.{slice_get_within, get_or_from_slice_get}
use Rattle.dimacs.specs.logic.Base.{pure_literals}
use Rattle.dimacs.specs.logic.Cnf.{Cnf}
use Rattle.icnf.specs.Leaves.{Cube}
use Rattle.lrat_check.specs.declared.verdict.Verdict.{Verdict}
use Rattle.lrat_check.specs.declared.verdict.Verdict.TheVariants.{Nothing, Model, Proof}
use Rattle.lrat_check.specs.declared.verdict.Reaction.{Reaction}
use Rattle.frames.specs.declared.answer.Ending.{Ending}
use Rattle.frames.specs.declared.answer.Ending.TheVariants as told
use Rattle.frames.specs.declared.frame.Attempt.{Attempt}
use Rattle.frames.specs.declared.frame.Frame.{Frame}
use Rattle.frames.specs.declared.frame.Frame.TheVariants.{Task, Done, Fetch, Piece, Verdict as VerdictFrame, Want, Part, Idle, Rest}
use Rattle.cube_split.specs.ChoiceWithDefinitions.{Chooses}
use Rattle.cube_split.specs.Pairs.{Definitions}
use Rattle.proof_join.specs.Definitions.{JoinedOver}
use Rattle.evidence.specs.Events.{Sent}
use Rattle.coordinator_core.specs.Coordinator.{CoordinatorState, CanSplit, AreClosed, CompletesFragment, CompletesAssignment, ReceivesJobEvidence, DeliversLimit, DeliversFirstDone, DeliversDone, DeliversPiece, DeliversIdle, DeliversWant, CoordinatorDelivers, CoordinatorPolls, coordinator_poll, poll_by, stuck_poll, job_poll, fixed_poll, leaf_poll, verdict_poll, want_at, job_at}
use Rattle.coordinator_core.specs.Invariant.{IsCoordinator}
use Rattle.coordinator_core.specs.declared.job_state.Fixed.{Fixed}
use Rattle.coordinator_core.specs.declared.job_state.Job.{Job}
use Rattle.coordinator_core.specs.declared.job_state.LeafState.{LeafState}
use Rattle.coordinator_core.specs.declared.job_state.LeafState.TheVariants.{GivenTo, Closed}
use Rattle.honest_cluster.specs.declared.event.ClosedEvent.{ClosedEvent}
use Rattle.honest_cluster.specs.declared.event.ClosedEvent.TheVariants.{Deliver, Work as WorkEvent, Poll as PollEvent, Restart}
use Rattle.honest_cluster.specs.ClosedSchedule.{Beginning, ClosedState, HappensDeliver, HappensWork, HappensPoll, HappensRestart, HappensClosed, RunsClosed, new_closed}
use Rattle.honest_cluster.specs.ClosedLaws.{HasUnsplittableLeaf, HasMetLimit, IsTooLong, IsStuckRightly, StuckRightly}
use Rattle.honest_cluster.proofs.History.{History, IsHonestCluster}
use Rattle.honest_cluster.proofs.WorkerSlots.{job_desk}
use Rattle.honest_cluster.proofs.EventLemmas.{CoordinatorsStay, event_keeps}
use Rattle.honest_cluster.proofs.Moments.{new_closed_is}

-- nothing that a reason names changes
record IsFrozen (c d : CoordinatorState) : Type 0 where
  formula : d.formula ≡ c.formula
  definitions : d.definitions ≡ c.definitions
  session : d.session ≡ c.session
  tree : d.tree ≡ c.tree
  leaves : d.leaves ≡ c.leaves
  fragments : d.fragments ≡ c.fragments

frozen_same : (c d : CoordinatorState) → d ≡ c → IsFrozen c d
frozen_same c d e = record { formula = ap (λ k. k.formula) e; definitions = ap (λ k. k.definitions) e; session = ap (λ k. k.session) e; tree = ap (λ k. k.tree) e; leaves = ap (λ k. k.leaves) e; fragments = ap (λ k. k.fragments) e }

not_both : (b : Bool) → b ≡ true → b ≡ false → ⊥
not_both b t f = let e : true ≡ false = sym t ∙ f in cc

-- a stuck coordinator is frozen
frozen : (c : CoordinatorState) (frame : Frame) (answer : Reaction) (new : CoordinatorState) → c.stuck ≡ true → CoordinatorDelivers c frame answer new → IsFrozen c new
frozen c (Done attempt ending) answer new stuck (DeliversDone.is_ignored none a now) = frozen_same c new now
frozen c (Done attempt ending) answer new stuck (DeliversDone.first j awaited free answered) = absurd (not_both c.stuck stuck awaited.deciding.going)
frozen c (Done attempt ending) answer new stuck (DeliversDone.again j x fetched a now) = frozen_same c new now
frozen c (Done attempt ending) answer new stuck (DeliversDone.anew j x awaited fixed other a now) = absurd (not_both c.stuck stuck awaited.deciding.going)
frozen c (Piece attempt offset bytes) answer new stuck (DeliversPiece.is_ignored none a now) = frozen_same c new now
frozen c (Piece attempt offset bytes) answer new stuck (DeliversPiece.appends j x fits gathers) = absurd (not_both c.stuck stuck fits.fetched.awaited.deciding.going)
frozen c (Idle worker incarnation) answer new stuck (DeliversIdle.is_ignored none a now) = frozen_same c new now
frozen c (Idle worker incarnation) answer new stuck (DeliversIdle.anew j stale a now) = absurd (not_both c.stuck stuck stale.deciding.going)
frozen c (Want session worker offset) answer new stuck (DeliversWant.is_ignored none a now) = frozen_same c new now
frozen c (Want session worker offset) answer new stuck (DeliversWant.notes wanted a now) = subst (IsFrozen c) (sym now) (record { formula = refl; definitions = refl; session = refl; tree = refl; leaves = refl; fragments = refl })
frozen c (Task session job limit cube) answer new stuck step = frozen_same c new step.1
frozen c (Fetch attempt offset) answer new stuck step = frozen_same c new step.1
frozen c (VerdictFrame session finding) answer new stuck step = frozen_same c new step.1
frozen c (Part session part offset bytes) answer new stuck step = frozen_same c new step.1
frozen c Rest answer new stuck step = frozen_same c new step.1

-- what makes it stuck
abbrev Reason : CoordinatorState → Frame → Type 0
Reason new frame = ((attempt : Attempt) × (frame ≡ Done attempt told.Limit) × (attempt.session ≡ new.session) × HasUnsplittableLeaf new) ⊎ IsTooLong new

stays_free : (c d new : CoordinatorState) (frame : Frame) → c.stuck ≡ false → d.stuck ≡ c.stuck → new ≡ d → new.stuck ≡ true → Reason new frame
stays_free c d new frame free same now stuck = absurd (not_both new.stuck stuck (ap (λ k. k.stuck) now ∙ same ∙ free))

fragment_stuck : (c : CoordinatorState) (frame : Frame) (worker : ℕ) (j : Job) (text : List ℕ) (answer : Reaction) (new : CoordinatorState) → c.stuck ≡ false → new.stuck ≡ true
    → CompletesFragment c worker j text answer new → Reason new frame
fragment_stuck c frame worker j text answer new free stuck (CompletesFragment.wrong never a now) = stays_free c _ new frame free refl now stuck
fragment_stuck c frame worker j text answer new free stuck (CompletesFragment.closes closes some a now) = stays_free c _ new frame free refl now stuck
fragment_stuck c frame worker j text answer new free stuck (CompletesFragment.joins closes all proof joined short a now) = stays_free c _ new frame free refl now stuck
fragment_stuck c frame worker j text answer new free stuck (CompletesFragment.too_long closes all proof joined long a now) =
    inr (subst IsTooLong (sym now) (record { all = all; text = proof; joined = joined; long = long }))

assignment_stuck : (c : CoordinatorState) (frame : Frame) (worker : ℕ) (j : Job) (x : Fixed) (answer : Reaction) (new : CoordinatorState) → c.stuck ≡ false → new.stuck ≡ true
    → CompletesAssignment c worker j x answer new → Reason new frame
assignment_stuck c frame worker j x answer new free stuck (CompletesAssignment.holds v right a now) = stays_free c _ new frame free refl now stuck
assignment_stuck c frame worker j x answer new free stuck (CompletesAssignment.wrong wrong a now) = stays_free c _ new frame free refl now stuck

gathers_stuck : (c : CoordinatorState) (frame : Frame) (worker : ℕ) (j : Job) (x : Fixed) (answer : Reaction) (new : CoordinatorState) → c.stuck ≡ false → new.stuck ≡ true
    → ReceivesJobEvidence c worker j x answer new → Reason new frame
gathers_stuck c frame worker j x answer new free stuck (ReceivesJobEvidence.waits more a now) = stays_free c _ new frame free refl now stuck
gathers_stuck c frame worker j x answer new free stuck (ReceivesJobEvidence.fragment complete refuted ends) = fragment_stuck c frame worker j x.evidence.bytes answer new free stuck ends
gathers_stuck c frame worker j x answer new free stuck (ReceivesJobEvidence.assignment complete assigned ends) = assignment_stuck c frame worker j x answer new free stuck ends
gathers_stuck c frame worker j x answer new free stuck (ReceivesJobEvidence.no_memory grows a now) = stays_free c c new frame free refl now stuck

-- the leaf of a job is not closed
leaf_unclosed : (c : CoordinatorState) (worker : ℕ) (j : Job) → IsCoordinator c → job_at c worker ≡ Some j → get_or c.leaves j.leaf Closed ≢ Closed
leaf_unclosed c worker j is at closed =
    not_closed ((worker - 1) + 1) (sym (get_or_from_slice_get c.leaves j.leaf (GivenTo ((worker - 1) + 1)) Closed (is.jobs (worker - 1) j (job_desk c worker j at)).given) ∙ closed)
  where
    not_closed : (n : ℕ) → GivenTo n ≡ Closed → ⊥
    not_closed n e = cc

limit_stuck : (c : CoordinatorState) (attempt : Attempt) (j : Job) (ending : Ending) (answer : Reaction) (new : CoordinatorState) → IsCoordinator c → c.stuck ≡ false → new.stuck ≡ true
    → attempt.session ≡ c.session → job_at c attempt.worker ≡ Some j → ending ≡ told.Limit → DeliversLimit c attempt.worker j answer new → Reason new (Done attempt ending)
limit_stuck c attempt j ending answer new is free stuck session at end (DeliversLimit.splits v can a now) = stays_free c _ new _ free refl now stuck
limit_stuck c attempt j ending answer new is free stuck session at end (DeliversLimit.stops whole a now) =
    inl (
      attempt,
      ap (λ (o : Ending). Done attempt o) end,
      session ∙ sym (ap (λ k. k.session) now),
      subst HasUnsplittableLeaf (sym now) (record {
        leaf = j.leaf;
        unclosed = leaf_unclosed c attempt.worker j is at;
        whole = λ v can. whole v (record { may = record { short = can.may.short; few = can.may.few; narrow = can.may.narrow }; choice = can.choice });
      }),
    )
limit_stuck c attempt j ending answer new is free stuck session at end (DeliversLimit.no_memory may a now) = stays_free c c new _ free refl now stuck

first_stuck : (c : CoordinatorState) (attempt : Attempt) (j : Job) (ending : Ending) (answer : Reaction) (new : CoordinatorState) → IsCoordinator c → c.stuck ≡ false → new.stuck ≡ true
    → attempt.session ≡ c.session → job_at c attempt.worker ≡ Some j → DeliversFirstDone c attempt j ending answer new → Reason new (Done attempt ending)
first_stuck c attempt j ending answer new is free stuck session at (DeliversFirstDone.limited end meets) = limit_stuck c attempt j ending answer new is free stuck session at end meets
first_stuck c attempt j ending answer new is free stuck session at (DeliversFirstDone.wrong_length finding end wrong a now) = stays_free c _ new _ free refl now stuck
first_stuck c attempt j ending answer new is free stuck session at (DeliversFirstDone.fixes finding end long gathers) = gathers_stuck c _ attempt.worker j _ answer new free stuck gathers

reason : (c : CoordinatorState) (frame : Frame) (answer : Reaction) (new : CoordinatorState) → IsCoordinator c → c.stuck ≡ false → new.stuck ≡ true → CoordinatorDelivers c frame answer new → Reason new frame
reason c (Done attempt ending) answer new is free stuck (DeliversDone.is_ignored none a now) = stays_free c c new _ free refl now stuck
reason c (Done attempt ending) answer new is free stuck (DeliversDone.first j awaited unfixed answered) =
    first_stuck c attempt j ending answer new is free stuck awaited.session_is awaited.job answered
reason c (Done attempt ending) answer new is free stuck (DeliversDone.again j x fetched a now) = stays_free c c new _ free refl now stuck
reason c (Done attempt ending) answer new is free stuck (DeliversDone.anew j x awaited fixed other a now) = stays_free c _ new _ free refl now stuck
reason c (Piece attempt offset bytes) answer new is free stuck (DeliversPiece.is_ignored none a now) = stays_free c c new _ free refl now stuck
reason c (Piece attempt offset bytes) answer new is free stuck (DeliversPiece.appends j x fits gathers) = gathers_stuck c _ attempt.worker j _ answer new free stuck gathers
reason c (Idle worker incarnation) answer new is free stuck (DeliversIdle.is_ignored none a now) = stays_free c c new _ free refl now stuck
reason c (Idle worker incarnation) answer new is free stuck (DeliversIdle.anew j stale a now) = stays_free c _ new _ free refl now stuck
reason c (Want session worker offset) answer new is free stuck (DeliversWant.is_ignored none a now) = stays_free c c new _ free refl now stuck
reason c (Want session worker offset) answer new is free stuck (DeliversWant.notes wanted a now) = stays_free c _ new _ free refl now stuck
reason c (Task session job limit cube) answer new is free stuck step = stays_free c c new _ free refl step.1 stuck
reason c (Fetch attempt offset) answer new is free stuck step = stays_free c c new _ free refl step.1 stuck
reason c (VerdictFrame session finding) answer new is free stuck step = stays_free c c new _ free refl step.1 stuck
reason c (Part session part offset bytes) answer new is free stuck step = stays_free c c new _ free refl step.1 stuck
reason c Rest answer new is free stuck step = stays_free c c new _ free refl step.1 stuck

-- the split rule chooses a variable for a leaf
abbrev Splits : Cnf → Definitions → List Cube → ℕ → ℕ → Type 0
Splits F d tree leaf v = Chooses F (record { units = pure_literals F; pairs = d.pairs }) (get_or tree leaf []) (Some v)

-- a reason stays one of a frozen coordinator
whole_stays : (c d : CoordinatorState) → IsFrozen c d → HasUnsplittableLeaf c → HasUnsplittableLeaf d
whole_stays c d f h = record {
  leaf = h.leaf;
  unclosed = subst (λ (l : List LeafState). get_or l h.leaf Closed ≢ Closed) (sym f.leaves) h.unclosed;
  whole = λ v can. h.whole v (back v can);
}
  where
    back : (v : ℕ) → CanSplit d h.leaf v → CanSplit c h.leaf v
    back v can = record {
      may = record {
        short = subst (λ (t : List Cube). length (get_or t h.leaf []) < 64) f.tree can.may.short;
        few = subst (λ (t : List Cube). length t < 65536) f.tree can.may.few;
        narrow = subst (λ (F : Cnf). F.vars + length c.definitions.pairs ≤ 2000000) f.formula
            (subst (λ (e : Definitions). d.formula.vars + length e.pairs ≤ 2000000) f.definitions can.may.narrow);
      };
      choice = subst (λ (t : List Cube). Splits c.formula c.definitions t h.leaf v) f.tree (subst (λ (e : Definitions). Splits c.formula e d.tree h.leaf v) f.definitions
          (subst (λ (F : Cnf). Splits F d.definitions d.tree h.leaf v) f.formula can.choice));
    }

long_stays : (c d : CoordinatorState) → IsFrozen c d → IsTooLong c → IsTooLong d
long_stays c d f h = record {
  all = subst AreClosed (sym f.leaves) h.all;
  text = h.text;
  joined = subst (λ (F : Cnf). JoinedOver F d.definitions.pairs d.tree d.fragments h.text) (sym f.formula)
      (subst (λ (e : Definitions). JoinedOver c.formula e.pairs d.tree d.fragments h.text) (sym f.definitions)
      (subst (λ (t : List Cube). JoinedOver c.formula c.definitions.pairs t d.fragments h.text) (sym f.tree)
      (subst (λ (fs : List (List ℕ)). JoinedOver c.formula c.definitions.pairs c.tree fs h.text) (sym f.fragments) h.joined)));
  long = h.long;
}

reason_stays : (frames more : List Frame) (c d : CoordinatorState) → ((f : Frame) → Contains frames f → Contains more f) → IsFrozen c d → HasMetLimit frames c ⊎ IsTooLong c → HasMetLimit more d ⊎ IsTooLong d
reason_stays frames more c d grows f (inl h) = inl (record { attempt = h.attempt; told = grows _ h.told; session = h.session ∙ sym f.session; leaf = whole_stays c d f h.leaf })
reason_stays frames more c d grows f (inr h) = inr (long_stays c d f h)

-- a poll does not change whether a coordinator is stuck, and leaves a stuck one frozen
leaf_poll_stuck : (c : CoordinatorState) (worker : ℕ) (more : Bool) (o : Option ℕ) → (leaf_poll c worker more o).after.stuck ≡ c.stuck
leaf_poll_stuck c worker true (Some leaf) = refl
leaf_poll_stuck c worker true None = refl
leaf_poll_stuck c worker false o = refl

fixed_poll_stuck : (c : CoordinatorState) (worker : ℕ) (j : Job) (o : Option Fixed) → (fixed_poll c worker j o).after.stuck ≡ c.stuck
fixed_poll_stuck c worker j (Some x) = refl
fixed_poll_stuck c worker j None = refl

job_poll_stuck : (c : CoordinatorState) (worker : ℕ) (o : Option Job) → (job_poll c worker o).after.stuck ≡ c.stuck
job_poll_stuck c worker (Some j) = fixed_poll_stuck c worker j j.fixed
job_poll_stuck c worker None = leaf_poll_stuck c worker _ _

frozen_itself : (c : CoordinatorState) → IsFrozen c c
frozen_itself c = frozen_same c c refl

verdict_poll_frozen : (c : CoordinatorState) (worker : ℕ) (o : Option ℕ) → (verdict_poll c worker o).after.stuck ≡ true → (c.stuck ≡ true) × IsFrozen c (verdict_poll c worker o).after
verdict_poll_frozen c worker (Some offset) stuck = (stuck, record { formula = refl; definitions = refl; session = refl; tree = refl; leaves = refl; fragments = refl })
verdict_poll_frozen c worker None stuck = (stuck, frozen_itself c)

poll_frozen : (c : CoordinatorState) (worker : ℕ) → (coordinator_poll c worker).after.stuck ≡ true → (c.stuck ≡ true) × IsFrozen c (coordinator_poll c worker).after
poll_frozen c worker = go c.verdict
  where
    by_stuck : (b : Bool) → c.stuck ≡ b → (stuck_poll c worker b).after.stuck ≡ true → (c.stuck ≡ true) × IsFrozen c (stuck_poll c worker b).after
    by_stuck true e stuck = (e, frozen_itself c)
    by_stuck false e stuck = absurd (not_both _ stuck (job_poll_stuck c worker (job_at c worker) ∙ e))

    go : (v : Verdict) → (poll_by c worker v).after.stuck ≡ true → (c.stuck ≡ true) × IsFrozen c (poll_by c worker v).after
    go Nothing stuck = by_stuck c.stuck refl stuck
    go (Model values) stuck = verdict_poll_frozen c worker (want_at c worker) stuck
    go (Proof text) stuck = verdict_poll_frozen c worker (want_at c worker) stuck

polled_frozen : (c : CoordinatorState) (worker : ℕ) (frame : Frame) (d : CoordinatorState) → CoordinatorPolls c worker (Sent frame) d → d.stuck ≡ true → (c.stuck ≡ true) × IsFrozen c d
polled_frozen c worker frame d (CoordinatorPolls.sends sent now) stuck =
    let h = poll_frozen c worker (sym (ap (λ k. k.stuck) now) ∙ stuck) in (h.0, subst (IsFrozen c) (sym now) h.1)
polled_frozen c worker frame d (CoordinatorPolls.no_memory grows a now) stuck = (sym (ap (λ k. k.stuck) now) ∙ stuck, frozen_same c d now)

-- every event
delivered_stuck : (s : ClosedState) (place : ℕ) (frame : Frame) (answer : Reaction) (c : CoordinatorState) → IsCoordinator s.coordinator → slice_get s.frames place ≡ Some frame → StuckRightly s
    → CoordinatorDelivers s.coordinator frame answer c → c.stuck ≡ true → HasMetLimit s.frames c ⊎ IsTooLong c
delivered_stuck s place frame answer c is found rightly step stuck = by s.coordinator.stuck refl
  where
    stands : Contains s.frames frame
    stands = (place, slice_get_within s.frames place frame found, get_or_from_slice_get s.frames place frame frame found)

    why : Reason c frame → HasMetLimit s.frames c ⊎ IsTooLong c
    why (inl (attempt, done, session, leaf)) = inl (record { attempt = attempt; told = subst (Contains s.frames) done stands; session = session; leaf = leaf })
    why (inr h) = inr h

    by : (b : Bool) → s.coordinator.stuck ≡ b → HasMetLimit s.frames c ⊎ IsTooLong c
    by true e = reason_stays s.frames s.frames s.coordinator c (λ f h. h) (frozen s.coordinator frame answer c e step) (rightly e)
    by false e = why (reason s.coordinator frame answer c is e stuck step)

event_stuck : (b : Beginning) (T : History) (s : ClosedState) (event : ClosedEvent) (answer : Reaction) (new : ClosedState)
    → IsHonestCluster b T s → StuckRightly s → HappensClosed s event answer new → StuckRightly new
event_stuck b T s event answer new is rightly happens = go event happens
  where
    delivers : (node place : ℕ) → HappensDeliver s node place answer new → StuckRightly new
    delivers node place (HappensDeliver.is_ignored none ignored) = subst StuckRightly (sym ignored.1) rightly
    delivers zero place (HappensDeliver.delivers frame found (c, step, now)) = subst StuckRightly (sym now) (delivered_stuck s place frame answer c is.coordinator found rightly step)
    delivers (suc i) place (HappensDeliver.delivers frame found (w, v, there, step, now)) = subst StuckRightly (sym now) rightly

    works : (node : ℕ) → HappensWork s node answer new → StuckRightly new
    works node (HappensWork.is_ignored none ignored) = subst StuckRightly (sym ignored.1) rightly
    works zero (HappensWork.works (c, step, now)) = absurd step
    works (suc i) (HappensWork.works (w, v, there, step, now)) = subst StuckRightly (sym now) rightly

    polls : (node worker : ℕ) → HappensPoll s node worker answer new → StuckRightly new
    polls node worker (HappensPoll.is_ignored none ignored) = subst StuckRightly (sym ignored.1) rightly
    polls node worker (HappensPoll.no_memory poll a now) = subst StuckRightly (sym now) rightly
    polls zero worker (HappensPoll.sends frame after (c, step, then_is) a now) =
        subst StuckRightly (sym now) (subst (λ (t : ClosedState). StuckRightly (record t { frames = t.frames ++ frame ∷ [] })) (sym then_is) (λ stuck.
        let h = polled_frozen s.coordinator worker frame c step.1 stuck in
        reason_stays s.frames (s.frames ++ frame ∷ []) s.coordinator c (λ f k. Contains-append_left s.frames _ f k) h.1 (rightly h.0)))
    polls (suc i) worker (HappensPoll.sends frame after (w, v, there, step, then_is) a now) =
        subst StuckRightly (sym now) (subst (λ (t : ClosedState). StuckRightly (record t { frames = t.frames ++ frame ∷ [] })) (sym then_is) (λ stuck.
        reason_stays s.frames (s.frames ++ frame ∷ []) s.coordinator s.coordinator (λ f k. Contains-append_left s.frames _ f k) (frozen_itself s.coordinator) (rightly stuck)))

    not_stuck : false ≡ true → ⊥
    not_stuck e = cc

    restarts : (node number : ℕ) → HappensRestart s node number answer new → StuckRightly new
    restarts node number (HappensRestart.is_ignored none ignored) = subst StuckRightly (sym ignored.1) rightly
    restarts node number (HappensRestart.no_memory known fresh a now) = subst StuckRightly (sym now) rightly
    restarts zero number (HappensRestart.anew after fresh then_is a now) =
        subst StuckRightly (sym now) (subst (λ (t : ClosedState). StuckRightly (record t { used = t.used ++ number ∷ [] })) (sym then_is) (λ stuck. absurd (not_stuck stuck)))
    restarts (suc i) number (HappensRestart.anew after fresh (w, there, then_is) a now) =
        subst StuckRightly (sym now) (subst (λ (t : ClosedState). StuckRightly (record t { used = t.used ++ number ∷ [] })) (sym then_is) rightly)

    go : (e : ClosedEvent) → HappensClosed s e answer new → StuckRightly new
    go (Deliver node place) h = delivers node place h
    go (WorkEvent node) h = works node h
    go (PollEvent node worker) h = polls node worker h
    go (Restart node number) h = restarts node number h

run_stuck : CoordinatorsStay → (b : Beginning) (T : History) (s : ClosedState) (events : List ClosedEvent) (new : ClosedState)
    → IsHonestCluster b T s → StuckRightly s → RunsClosed s events new → StuckRightly new
run_stuck law b T s [] new is rightly same = subst StuckRightly (sym same) rightly
run_stuck law b T s (event ∷ events) new is rightly (answer, mid, happens, runs) =
    let h = event_keeps law b T s event answer mid is happens in
    run_stuck law b h.0 mid events new h.1 (event_stuck b T s event answer mid is rightly happens) runs

-- a coordinator is stuck for a reason
pub stuck_rightly : CoordinatorsStay → IsStuckRightly
stuck_rightly law b s r =
    run_stuck law b _ (new_closed b) r.events s (new_closed_is b r.formula r.defined r.initial_tree r.some_worker r.few_workers) (λ stuck. absurd (never stuck)) r.runs
  where
    never : false ≡ true → ⊥
    never e = cc
