-- The frames that a coordinator sends under closed schedules are true.
use Rattle.std.proofs.Common.{◌≡◌, ◌≢◌, ℕ, ◌+◌, ◌-◌, ◌<◌, ◌≤◌, Bool, true, false, List, [], length, Contains, Option, Some, None, slice_get, refl, subst, sym, ap, ◌∙◌, ◌⊎◌, inl, inr, arith}
use Rattle.std.specs.Prelude.{position}
use Rattle.std.proofs.lemmas.List.Elements.{Contains-push, Contains-push_cases}
use Rattle.std.proofs.lemmas.List.Quantifiers.{position-Some}
use Rattle.std.proofs.lemmas.Option.{slice_get-get_or}
use Rattle.icnf.specs.Leaves.{Cube}
use Rattle.lrat_check.specs.declared.verdict.Verdict.{Verdict}
use Rattle.lrat_check.specs.declared.verdict.Verdict.TheVariants.{Nothing, Model, Proof}
use Rattle.lrat_check.specs.declared.verdict.Reaction.TheVariants as reaction
use Rattle.frames.specs.declared.frame.Frame.{Frame}
use Rattle.frames.specs.declared.frame.Frame.TheVariants.{Fetch, Verdict as VerdictFrame, Rest}
use Rattle.evidence.specs.Evidence.{bytes_in, finding_in}
use Rattle.evidence.specs.Jobs.{IsOverBase, attempt_at}
use Rattle.evidence.specs.Events.{chunk}
use Rattle.evidence.specs.declared.job.JobName.{JobName}
use Rattle.coordinator_core.specs.Coordinator.{CoordinatorState, coordinator_base, Poll, poll_result, cube_at, job_at, want_at, job_name, new_job, gives, is_open, verdict_poll, leaf_poll, fixed_poll, job_poll, stuck_poll, poll_by, coordinator_poll, task_of}
use Rattle.coordinator_core.specs.declared.job_state.Fixed.{Fixed}
use Rattle.coordinator_core.specs.declared.job_state.Job.{Job}
use Rattle.coordinator_core.specs.declared.job_state.LeafState.{LeafState}
use Rattle.coordinator_core.specs.declared.job_state.LeafState.TheVariants.{Open, GivenTo, Closed}
use Rattle.coordinator_core.specs.Invariant.{IsCoordinator}
use Rattle.honest_cluster.proofs.History.{History, Asked, IsTrueFrame, IsSettled, slot_of, IsHonestCoordinator, IsHonestJob, asks}
use Rattle.honest_cluster.proofs.Prefixes.{chunk_stands}
use Rattle.honest_cluster.proofs.WorkerSlots.{desk_job}
use Rattle.honest_cluster.proofs.Places.{got_set_other, got_set_same, read_set_cases, same_some, none_some}
use Rattle.honest_cluster.proofs.HistoryLemmas.{as_much, asking, asking_more, true_stays}
use Rattle.honest_cluster.proofs.CoordinatorLemmas.{OwnSayings, says_nothing, IsFair, unchanged, job_stays}

-- the frame of a poll is true, with the history then
abbrev pub IsFairPoll : History → ℕ → CoordinatorState → Poll → Type 0
IsFairPoll T limit c p = (U : History) × OwnSayings T c U × IsSettled c.formula (coordinator_base c) U × IsTrueFrame U limit p.frame × IsFair U c reaction.Taken p.after

says_so : (T : History) (limit : ℕ) (c : CoordinatorState) (frame : Frame) → IsSettled c.formula (coordinator_base c) T → IsHonestCoordinator T c → IsTrueFrame T limit frame → IsFairPoll T limit c (poll_result frame c)
says_so T limit c frame settled honest told = (T, says_nothing T c, settled, told, unchanged T c reaction.Taken reaction.Taken c honest refl tt refl)

-- a leaf is given as a new job
settled_asking : (T : History) (c : CoordinatorState) (cube : Cube) → IsSettled c.formula (coordinator_base c) T → IsHonestCoordinator T c → IsOverBase (coordinator_base c) cube
    → IsSettled c.formula (coordinator_base c) (asking T (asks (record { session = c.session; job = c.next }) cube))
settled_asking T c cube settled honest inside = record {
  one_cube = λ name p q hp hq. one name p q (Contains-push_cases T.asked _ _ hp) (Contains-push_cases T.asked _ _ hq);
  inside = λ name q h. within name q (Contains-push_cases T.asked _ _ h);
  one_reply = settled.one_reply;
  true_reply = λ attempt r h. true_stays T (asking T (asks (record { session = c.session; job = c.next }) cube)) c.formula (coordinator_base c) _ (asking_more T _) r (settled.true_reply attempt r h);
  one_verdict = settled.one_verdict;
  decision = settled.decision;
  right = settled.right;
}
  where
    name_now : JobName
    name_now = record { session = c.session; job = c.next }

    not_asked : (name : JobName) (p : Cube) → Contains T.asked (asks name p) → record { session = c.session; job = c.next } ≡ name → ⊥
    not_asked name p told same =
        let session : name.session ≡ c.session = sym (ap (λ (n : JobName). n.session) same) in
        let below : name.job < c.next = honest.next name p told session in
        let number : c.next ≡ name.job = ap (λ (n : JobName). n.job) same in
        absurd (omega (arith, below, number))

    one : (name : JobName) (p q : Cube) → Contains T.asked (asks name p) ⊎ (asks (record { session = c.session; job = c.next }) cube ≡ asks name p)
        → Contains T.asked (asks name q) ⊎ (asks (record { session = c.session; job = c.next }) cube ≡ asks name q) → p ≡ q
    one name p q (inl a) (inl b) = settled.one_cube name p q a b
    one name p q (inl a) (inr b) = absurd (not_asked name p a (ap (λ (k : Asked). k.name) b))
    one name p q (inr a) (inl b) = absurd (not_asked name q b (ap (λ (k : Asked). k.name) a))
    one name p q (inr a) (inr b) = sym (ap (λ (k : Asked). k.cube) a) ∙ ap (λ (k : Asked). k.cube) b

    within : (name : JobName) (q : Cube) → Contains T.asked (asks name q) ⊎ (asks (record { session = c.session; job = c.next }) cube ≡ asks name q) → IsOverBase (coordinator_base c) q
    within name q (inl a) = settled.inside name q a
    within name q (inr a) = subst (IsOverBase (coordinator_base c)) (ap (λ (k : Asked). k.cube) a) inside

jobs_given : (T : History) (c : CoordinatorState) (worker leaf : ℕ) → IsHonestCoordinator T c → 1 ≤ worker → slice_get c.leaves leaf ≡ Some Open → leaf < length c.leaves
    → (w : ℕ) (i : Job) → 1 ≤ w → slot_of (gives c worker leaf) w ≡ Some i
    → IsHonestJob (asking T (asks (record { session = c.session; job = c.next }) (cube_at c leaf))) (gives c worker leaf) w i
jobs_given T c worker leaf honest from_1 free inside w i w_from_1 h = go (read_set_cases c.jobs (worker - 1) (w - 1) (Some (new_job c leaf)) None (Some i) h)
  where
    U : History
    U = asking T (asks (record { session = c.session; job = c.next }) (cube_at c leaf))

    fresh : IsHonestJob (asking T (asks (record { session = c.session; job = c.next }) (cube_at c leaf))) (gives c worker leaf) worker (new_job c leaf)
    fresh = record {
      asked = Contains-push T.asked (asks (record { session = c.session; job = c.next }) (cube_at c leaf));
      given = got_set_same c.leaves leaf (GivenTo worker) inside;
      fixed = λ x e. absurd (none_some x e);
    }

    go : ((w - 1 ≡ worker - 1) × (Some (new_job c leaf) ≡ Some i)) ⊎ (((w - 1 ≢ worker - 1) ⊎ (length c.jobs ≤ worker - 1)) × (slot_of c w ≡ Some i))
        → IsHonestJob (asking T (asks (record { session = c.session; job = c.next }) (cube_at c leaf))) (gives c worker leaf) w i
    go (inl p) =
        let at : w - 1 ≡ worker - 1 = p.0 in
        let same : worker ≡ w = omega (arith, at, from_1, w_from_1) in
        subst (λ (n : ℕ). IsHonestJob (asking T (asks (record { session = c.session; job = c.next }) (cube_at c leaf))) (gives c worker leaf) n i) same
        (subst (IsHonestJob (asking T (asks (record { session = c.session; job = c.next }) (cube_at c leaf))) (gives c worker leaf) worker) (same_some (new_job c leaf) i p.1) fresh)
    go (inr p) =
        let was : IsHonestJob T c w i = honest.jobs w i w_from_1 p.1 in
        let other : i.leaf ≢ leaf = λ e. both (sym was.given ∙ ap (slice_get c.leaves) e ∙ free) in
        job_stays T (asking T (asks (record { session = c.session; job = c.next }) (cube_at c leaf))) c (gives c worker leaf) w i (asking_more T _) refl refl (got_set_other c.leaves leaf i.leaf (GivenTo worker) (GivenTo w) other was.given) was
      where
        both : Some (GivenTo w) ≡ Some Open → ⊥
        both e = cc

is_open_is : (l : LeafState) → is_open l ≡ true → l ≡ Open
is_open_is Open e = refl
is_open_is (GivenTo worker) e = cc
is_open_is Closed e = cc

gives_fair : (T : History) (limit : ℕ) (c : CoordinatorState) (worker leaf : ℕ) → IsSettled c.formula (coordinator_base c) T → IsHonestCoordinator T c → IsCoordinator c → c.limit ≡ limit → 1 ≤ worker
    → position is_open c.leaves ≡ Some leaf → IsFairPoll T limit c (leaf_poll c worker true (Some leaf))
gives_fair T limit c worker leaf settled honest is bound from_1 at =
    let p = position-Some is_open c.leaves leaf Closed at in
    let inside : leaf < length c.leaves = p.0 in
    let free : slice_get c.leaves leaf ≡ Some Open = slice_get-get_or c.leaves leaf Closed inside ∙ ap (λ (l : LeafState). Some l) (is_open_is _ p.1) in
    let cube : Cube = cube_at c leaf in
    let entry : Asked = asks (record { session = c.session; job = c.next }) cube in
    let leaf_inside : leaf < length c.tree = omega (arith, inside, is.tables.each_leaf) in (
      asking T entry,
      own cube,
      settled_asking T c cube settled honest (is.grounds.tree_is.inside leaf [] leaf_inside),
      (bound, Contains-push T.asked entry),
      record {
        honest = record {
          jobs = jobs_given T c worker leaf honest from_1 free inside;
          next = λ name q h session. below cube name q session (Contains-push_cases T.asked _ _ h);
          decided = honest.decided;
          undecided = honest.undecided;
        };
        plain = tt;
        formula = refl;
        definitions = refl;
        session = refl;
        limit = refl;
      },
    )
  where
    below : (cube : Cube) (name : JobName) (q : Cube) → name.session ≡ c.session → Contains T.asked (asks name q) ⊎ (asks (record { session = c.session; job = c.next }) cube ≡ asks name q) → name.job < c.next + 1
    below cube name q session (inl a) = let lt : name.job < c.next = honest.next name q a session in omega (arith, lt)
    below cube name q session (inr a) = let e : c.next ≡ name.job = ap (λ (k : Asked). k.name.job) a in omega (arith, e)

    named : (cube : Cube) (name : JobName) (q : Cube) → Contains T.asked (asks name q) ⊎ (asks (record { session = c.session; job = c.next }) cube ≡ asks name q)
        → Contains T.asked (asks name q) ⊎ (name.session ≡ c.session)
    named cube name q (inl a) = inl a
    named cube name q (inr a) = inr (sym (ap (λ (k : Asked). k.name.session) a))

    own : (cube : Cube) → OwnSayings T c (asking T (asks (record { session = c.session; job = c.next }) cube))
    own cube = record {
      more = asking_more T _;
      answered = λ a h. h;
      asked = λ name q h. named cube name q (Contains-push_cases T.asked _ _ h);
      decided = λ session v h. inl h;
    }

leaf_polled : (T : History) (limit : ℕ) (c : CoordinatorState) (worker : ℕ) (more : Bool) (o : Option ℕ) → IsSettled c.formula (coordinator_base c) T → IsHonestCoordinator T c → IsCoordinator c → c.limit ≡ limit → 1 ≤ worker
    → position is_open c.leaves ≡ o → IsFairPoll T limit c (leaf_poll c worker more o)
leaf_polled T limit c worker true (Some leaf) settled honest is bound from_1 at = gives_fair T limit c worker leaf settled honest is bound from_1 at
leaf_polled T limit c worker true None settled honest is bound from_1 at = says_so T limit c Rest settled honest tt
leaf_polled T limit c worker false o settled honest is bound from_1 at = says_so T limit c Rest settled honest tt

fixed_polled : (T : History) (limit : ℕ) (c : CoordinatorState) (worker : ℕ) (j : Job) (o : Option Fixed) → IsSettled c.formula (coordinator_base c) T → IsHonestCoordinator T c → c.limit ≡ limit
    → IsHonestJob T c worker j → j.fixed ≡ o → IsFairPoll T limit c (fixed_poll c worker j o)
fixed_polled T limit c worker j (Some x) settled honest bound job fixed = let h = job.fixed x fixed in says_so T limit c (Fetch (attempt_at (job_name c j) worker x.incarnation) (length x.evidence.bytes)) settled honest (h.0, h.1, h.2)
fixed_polled T limit c worker j None settled honest bound job fixed = says_so T limit c (task_of c j) settled honest (bound, job.asked)

job_polled : (T : History) (limit : ℕ) (c : CoordinatorState) (worker : ℕ) (o : Option Job) → IsSettled c.formula (coordinator_base c) T → IsHonestCoordinator T c → IsCoordinator c → c.limit ≡ limit → 1 ≤ worker
    → job_at c worker ≡ o → IsFairPoll T limit c (job_poll c worker o)
job_polled T limit c worker (Some j) settled honest is bound from_1 at = fixed_polled T limit c worker j j.fixed settled honest bound (honest.jobs worker j from_1 (desk_job c worker (Some j) from_1 at)) refl
job_polled T limit c worker None settled honest is bound from_1 at = leaf_polled T limit c worker _ _ settled honest is bound from_1 refl

stuck_polled : (T : History) (limit : ℕ) (c : CoordinatorState) (worker : ℕ) (stuck : Bool) → IsSettled c.formula (coordinator_base c) T → IsHonestCoordinator T c → IsCoordinator c → c.limit ≡ limit → 1 ≤ worker
    → IsFairPoll T limit c (stuck_poll c worker stuck)
stuck_polled T limit c worker true settled honest is bound from_1 = says_so T limit c Rest settled honest tt
stuck_polled T limit c worker false settled honest is bound from_1 = job_polled T limit c worker _ settled honest is bound from_1 refl

-- with another noted offset
noted_fair : (T : History) (c : CoordinatorState) (wants : List (Option ℕ)) → IsHonestCoordinator T c → IsFair T c reaction.Taken (record c { wants = wants })
noted_fair T c wants honest = record {
  honest = record {
    jobs = λ w i from_1 h. let was = honest.jobs w i from_1 h in job_stays T T c (record c { wants = wants }) w i (as_much T) refl refl was.given was;
    next = honest.next;
    decided = honest.decided;
    undecided = honest.undecided;
  };
  plain = tt;
  formula = refl;
  definitions = refl;
  session = refl;
  limit = refl;
}

verdict_polled : (T : History) (limit : ℕ) (c : CoordinatorState) (worker : ℕ) (o : Option ℕ) → IsSettled c.formula (coordinator_base c) T → IsHonestCoordinator T c → IsCoordinator c → c.verdict ≢ Nothing
    → want_at c worker ≡ o → IsFairPoll T limit c (verdict_poll c worker o)
verdict_polled T limit c worker (Some offset) settled honest is some wants =
    (T, says_nothing T c, settled, (c.verdict, honest.decided some, refl, chunk_stands (bytes_in c.verdict) offset chunk (is.wanted worker offset wants)), noted_fair T c _ honest)
verdict_polled T limit c worker None settled honest is some wants = says_so T limit c (VerdictFrame c.session (finding_in c.verdict)) settled honest (c.verdict, honest.decided some, refl)

pub poll_fair : (T : History) (limit : ℕ) (c : CoordinatorState) (worker : ℕ) → IsSettled c.formula (coordinator_base c) T → IsHonestCoordinator T c → IsCoordinator c → c.limit ≡ limit → 1 ≤ worker
    → IsFairPoll T limit c (coordinator_poll c worker)
poll_fair T limit c worker settled honest is bound from_1 = go c.verdict refl
  where
    go : (v : Verdict) → c.verdict ≡ v → IsFairPoll T limit c (poll_by c worker v)
    go Nothing e = stuck_polled T limit c worker c.stuck settled honest is bound from_1
    go (Model values) e = verdict_polled T limit c worker (want_at c worker) settled honest is (λ n. apart values (sym e ∙ n)) refl
      where
        apart : (values : List Bool) → Model values ≡ Nothing → ⊥
        apart values n = cc
    go (Proof text) e = verdict_polled T limit c worker (want_at c worker) settled honest is (λ n. apart text (sym e ∙ n)) refl
      where
        apart : (text : List ℕ) → Proof text ≡ Nothing → ⊥
        apart text n = cc
