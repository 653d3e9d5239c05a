-- The invariant of a coordinator under closed schedules, and that it refuses nothing.
use Rattle.std.proofs.Common.{◌≡◌, ◌≢◌, ℕ, ◌-◌, ◌<◌, ◌≤◌, Bool, true, List, ◌++◌, length, Contains, Some, None, slice_get, slice_set, get_or, refl, subst, sym, ap, ◌∙◌, ◌⊎◌, inl, inr, arith}
use Rattle.std.proofs.lemmas.Option.{slice_get_within}
use Rattle.std.proofs.lemmas.List.Elements.{Contains-push, Contains-push_cases}
use Rattle.dimacs.specs.logic.Cnf.{Cnf}
use Rattle.icnf.specs.Leaves.{Cube}
use Rattle.lrat_text.specs.Log.{Closes}
use Rattle.lrat_check.specs.Verdicts.{Right}
use Rattle.lrat_check.specs.declared.verdict.Verdict.{Verdict}
use Rattle.lrat_check.specs.declared.verdict.Verdict.TheVariants.{Nothing, Proof}
use Rattle.lrat_check.specs.declared.verdict.Reaction.{Reaction}
use Rattle.frames.specs.Answers.{answer_of}
use Rattle.frames.specs.declared.answer.Answer.{Answer}
use Rattle.frames.specs.declared.answer.Answer.TheVariants as answers
use Rattle.frames.specs.declared.answer.Finding.{Finding}
use Rattle.frames.specs.declared.answer.Ending.{Ending}
use Rattle.frames.specs.declared.answer.Ending.TheVariants as told
use Rattle.frames.specs.declared.frame.Attempt.{Attempt}
use Rattle.frames.specs.declared.frame.Frame.{Frame}
use Rattle.frames.specs.declared.frame.Frame.TheVariants.{Task, Done, Fetch, Piece, Verdict as VerdictFrame, Want, Part, Idle, Rest}
use Rattle.evidence.specs.Evidence.{answer_in, bytes_in, finding_of, HasWrongLength, IsRightEvidence}
use Rattle.evidence.specs.Jobs.{name_of, attempt_at}
use Rattle.evidence.specs.Evidence.{IsComplete, with_bytes}
use Rattle.evidence.specs.declared.job.JobName.{JobName}
use Rattle.coordinator_core.specs.Coordinator.{CoordinatorState, coordinator_base, ReceivesJobEvidence, CompletesFragment, CompletesAssignment, DeliversLimit, DeliversFirstDone, DeliversDone, DeliversPiece, DeliversIdle, DeliversWant, CoordinatorDelivers, IsAwaited, first_answer, cube_at, job_at, with_job, closed, split, with_fixed, job_name}
use Rattle.coordinator_core.specs.Splits.{doubled, shifted}
use Rattle.coordinator_core.proofs.SplitLemmas.{branched_read, doubled_at, doubled_set, job_before, shift_at}
use Rattle.coordinator_core.specs.declared.job_state.Fixed.{Fixed}
use Rattle.coordinator_core.specs.declared.job_state.Job.{Job}
use Rattle.coordinator_core.specs.declared.job_state.LeafState.{LeafState}
use Rattle.coordinator_core.specs.declared.job_state.LeafState.TheVariants.{Open, GivenTo, Closed}
use Rattle.coordinator_core.specs.Invariant.{IsCoordinator}
use Rattle.evidence.proofs.EvidenceLemmas.{IsBorneOut, borne_out}
use Rattle.honest_cluster.specs.ClosedLaws.{HasBytesAt}
use Rattle.honest_cluster.proofs.History.{History, Asked, Answered, Decision, Reply, Met, Shown, IsTrueFrame, IsTrueReply, IsSettled, slot_of, IsHonestCoordinator, IsHonestJob, IsPrefix, IsPrefixOf, asks, answers_so, decides, ending_of}
use Rattle.honest_cluster.proofs.Prefixes.{front_grows, empty_front}
use Rattle.honest_cluster.proofs.WorkerSlots.{job_from_1, job_desk}
use Rattle.honest_cluster.proofs.Places.{got_set_other, got_set_same, read_set_cases, read_within, same_some, none_some}
use Rattle.honest_cluster.proofs.HistoryLemmas.{IsPlain, plain_by, IsMore, as_much, deciding, deciding_more, all_there, answer_there, right_length}

-- what is added to the history is no reply, and is of this coordinator's session
pub record OwnSayings (T : History) (c : CoordinatorState) (U : History) : Type 0 where
  pub more : IsMore T U
  pub answered : (a : Answered) → Contains U.answered a → Contains T.answered a
  pub asked : (name : JobName) (q : Cube) → Contains U.asked (asks name q) → Contains T.asked (asks name q) ⊎ (name.session ≡ c.session)
  pub decided : (session : ℕ) (v : Verdict) → Contains U.decided (decides session v) → Contains T.decided (decides session v) ⊎ (session ≡ c.session)

pub says_nothing : (T : History) (c : CoordinatorState) → OwnSayings T c T
says_nothing T c = record { more = as_much T; answered = λ a h. h; asked = λ name q h. inl h; decided = λ session v h. inl h }

-- an event left a coordinator honest, with a reaction that is no refusal; what the coordinator was made with is unchanged
pub record IsFair (U : History) (c : CoordinatorState) (answer : Reaction) (new : CoordinatorState) : Type 0 where
  pub honest : IsHonestCoordinator U new
  pub plain : IsPlain answer
  pub formula : new.formula ≡ c.formula
  pub definitions : new.definitions ≡ c.definitions
  pub session : new.session ≡ c.session
  pub limit : new.limit ≡ c.limit

pub unchanged : (T : History) (c : CoordinatorState) (answer r : Reaction) (new : CoordinatorState) → IsHonestCoordinator T c → answer ≡ r → IsPlain r → new ≡ c → IsFair T c answer new
unchanged T c answer r new honest is plain same = subst (λ (n : CoordinatorState). IsFair T c answer n) (sym same) (record {
  honest = honest;
  plain = plain_by answer r is plain;
  formula = refl;
  definitions = refl;
  session = refl;
  limit = refl;
})

-- an honest job stays honest if its leaf stays given to its worker
pub job_stays : (T U : History) (c d : CoordinatorState) (worker : ℕ) (j : Job) → IsMore T U → d.session ≡ c.session → cube_at d j.leaf ≡ cube_at c j.leaf
    → slice_get d.leaves j.leaf ≡ Some (GivenTo worker) → IsHonestJob T c worker j → IsHonestJob U d worker j
job_stays T U c d worker j more session cube given job =
    let name : job_name d j ≡ job_name c j = ap (λ (s : ℕ). record { session = s; job = j.number }) session in
    record {
      asked = subst (λ (n : JobName). Contains U.asked (asks n (cube_at d j.leaf))) (sym name) (subst (λ (q : Cube). Contains U.asked (asks (job_name c j) q)) (sym cube) (more.asked _ job.asked));
      given = given;
      fixed = λ x e. let h = job.fixed x e in
          (h.0, h.1, subst (λ (n : JobName). Contains U.answered (answers_so (attempt_at n worker x.incarnation) (Shown h.0 h.1))) (sym name) (more.answered _ h.2), h.3);
    }

-- leaves of different workers are different
leaves_differ : (T : History) (c : CoordinatorState) (w worker : ℕ) (i j : Job) → IsHonestJob T c w i → IsHonestJob T c worker j → w ≢ worker → i.leaf ≢ j.leaf
leaves_differ T c w worker i j one other differ same =
    let both : Some (GivenTo w) ≡ Some (GivenTo worker) = sym one.given ∙ ap (slice_get c.leaves) same ∙ other.given in
    differ (from both)
  where
    from : Some (GivenTo w) ≡ Some (GivenTo worker) → w ≡ worker
    from e = cc

-- a coordinator whose worker lost its job, its leaf being in another state
abbrev dropped : CoordinatorState → ℕ → Job → LeafState → List (List ℕ) → Verdict → Bool → CoordinatorState
dropped c worker j l fragments v stuck = record c {
  leaves = slice_set c.leaves j.leaf l;
  jobs = slice_set c.jobs (worker - 1) None;
  fragments = fragments;
  verdict = v;
  stuck = stuck;
}

jobs_dropped : (T U : History) (c : CoordinatorState) (worker : ℕ) (j : Job) (l : LeafState) (fragments : List (List ℕ)) (v : Verdict) (stuck : Bool)
    → IsMore T U → IsHonestCoordinator T c → 1 ≤ worker → slot_of c worker ≡ Some j
    → (w : ℕ) (i : Job) → 1 ≤ w → slot_of (dropped c worker j l fragments v stuck) w ≡ Some i → IsHonestJob U (dropped c worker j l fragments v stuck) w i
jobs_dropped T U c worker j l fragments v stuck more honest from_1 at w i w_from_1 h = go (read_set_cases c.jobs (worker - 1) (w - 1) None None (Some i) h)
  where
    go : ((w - 1 ≡ worker - 1) × (None ≡ Some i)) ⊎ (((w - 1 ≢ worker - 1) ⊎ (length c.jobs ≤ worker - 1)) × (slot_of c w ≡ Some i))
        → IsHonestJob U (dropped c worker j l fragments v stuck) w i
    go (inl p) = absurd (none_some i p.1)
    go (inr p) = apart p.0
      where
        was : IsHonestJob T c w i
        was = honest.jobs w i w_from_1 p.1

        differ : (w ≢ worker) → IsHonestJob U (dropped c worker j l fragments v stuck) w i
        differ n =
            let other : i.leaf ≢ j.leaf = leaves_differ T c w worker i j was (honest.jobs worker j from_1 at) n in
            job_stays T U c (dropped c worker j l fragments v stuck) w i more refl refl (got_set_other c.leaves j.leaf i.leaf l (GivenTo w) other was.given) was

        apart : (w - 1 ≢ worker - 1) ⊎ (length c.jobs ≤ worker - 1) → IsHonestJob U (dropped c worker j l fragments v stuck) w i
        apart (inl n) = differ (λ e. n (ap (λ k. k - 1) e))
        apart (inr past) = let lt : worker - 1 < length c.jobs = read_within c.jobs (worker - 1) j at in absurd (omega (arith, lt, past))

-- after a drop the verdict is unchanged
drops : (T : History) (c : CoordinatorState) (worker : ℕ) (j : Job) (l : LeafState) (fragments : List (List ℕ)) (stuck : Bool) (answer r : Reaction) (new : CoordinatorState)
    → IsHonestCoordinator T c → 1 ≤ worker → slot_of c worker ≡ Some j → answer ≡ r → IsPlain r → new ≡ dropped c worker j l fragments c.verdict stuck → IsFair T c answer new
drops T c worker j l fragments stuck answer r new honest from_1 at is plain now = subst (λ (n : CoordinatorState). IsFair T c answer n) (sym now) (record {
  honest = record {
    jobs = jobs_dropped T T c worker j l fragments c.verdict stuck (as_much T) honest from_1 at;
    next = honest.next;
    decided = honest.decided;
    undecided = honest.undecided;
  };
  plain = plain_by answer r is plain;
  formula = refl;
  definitions = refl;
  session = refl;
  limit = refl;
})

-- with another job of a worker
jobs_with : (T U : History) (c : CoordinatorState) (worker : ℕ) (k : Job) (v : Verdict) → IsMore T U → IsHonestCoordinator T c → 1 ≤ worker → IsHonestJob T c worker k
    → (w : ℕ) (i : Job) → 1 ≤ w → slot_of (record (with_job c worker (Some k)) { verdict = v }) w ≡ Some i → IsHonestJob U (record (with_job c worker (Some k)) { verdict = v }) w i
jobs_with T U c worker k v more honest from_1 job w i w_from_1 h = go (read_set_cases c.jobs (worker - 1) (w - 1) (Some k) None (Some i) h)
  where
    there : CoordinatorState
    there = record (with_job c worker (Some k)) { verdict = v }

    go : ((w - 1 ≡ worker - 1) × (Some k ≡ Some i)) ⊎ (((w - 1 ≢ worker - 1) ⊎ (length c.jobs ≤ worker - 1)) × (slot_of c w ≡ Some i)) → IsHonestJob U (record (with_job c worker (Some k)) { verdict = v }) w i
    go (inl p) =
        let at : w - 1 ≡ worker - 1 = p.0 in
        let same : worker ≡ w = omega (arith, at, from_1, w_from_1) in
        let moved : IsHonestJob U (record (with_job c worker (Some k)) { verdict = v }) worker k = job_stays T U c (record (with_job c worker (Some k)) { verdict = v }) worker k more refl refl job.given job in
        subst (λ (n : ℕ). IsHonestJob U (record (with_job c worker (Some k)) { verdict = v }) n i) same (subst (IsHonestJob U (record (with_job c worker (Some k)) { verdict = v }) worker) (same_some k i p.1) moved)
    go (inr p) =
        let was : IsHonestJob T c w i = honest.jobs w i w_from_1 p.1 in
        job_stays T U c (record (with_job c worker (Some k)) { verdict = v }) w i more refl refl was.given was

-- a verdict is added to the history under the session
settled_deciding : (T : History) (c : CoordinatorState) (v : Verdict) → IsSettled c.formula (coordinator_base c) T → IsHonestCoordinator T c → c.verdict ≡ Nothing → v ≢ Nothing → Right c.formula v
    → IsSettled c.formula (coordinator_base c) (deciding T (decides c.session v))
settled_deciding T c v settled honest undecided some right = record {
  one_cube = settled.one_cube;
  inside = settled.inside;
  one_reply = settled.one_reply;
  true_reply = settled.true_reply;
  one_verdict = λ session a b ha hb. one session a b (Contains-push_cases T.decided _ _ ha) (Contains-push_cases T.decided _ _ hb);
  decision = λ session a h. is_some session a (Contains-push_cases T.decided _ _ h);
  right = λ session a h. is_right session a (Contains-push_cases T.decided _ _ h);
}
  where
    none_yet : (session : ℕ) (a : Verdict) → Contains T.decided (decides session a) → decides c.session v ≡ decides session v → ⊥
    none_yet session a told same = honest.undecided a (subst (λ (s : ℕ). Contains T.decided (decides s a)) (sym (ap (λ d. d.session) same)) told) undecided

    one : (session : ℕ) (a b : Verdict) → Contains T.decided (decides session a) ⊎ (decides c.session v ≡ decides session a) → Contains T.decided (decides session b) ⊎ (decides c.session v ≡ decides session b) → a ≡ b
    one session a b (inl p) (inl q) = settled.one_verdict session a b p q
    one session a b (inl p) (inr q) = absurd (none_yet session a p (ap (λ (s : ℕ). decides s v) (ap (λ d. d.session) q)))
    one session a b (inr p) (inl q) = absurd (none_yet session b q (ap (λ (s : ℕ). decides s v) (ap (λ d. d.session) p)))
    one session a b (inr p) (inr q) = sym (ap (λ d. d.verdict) p) ∙ ap (λ d. d.verdict) q

    is_some : (session : ℕ) (a : Verdict) → Contains T.decided (decides session a) ⊎ (decides c.session v ≡ decides session a) → a ≢ Nothing
    is_some session a (inl p) = settled.decision session a p
    is_some session a (inr p) = subst (λ (k : Verdict). k ≢ Nothing) (ap (λ d. d.verdict) p) some

    is_right : (session : ℕ) (a : Verdict) → Contains T.decided (decides session a) ⊎ (decides c.session v ≡ decides session a) → Right c.formula a
    is_right session a (inl p) = settled.right session a p
    is_right session a (inr p) = subst (Right c.formula) (ap (λ d. d.verdict) p) right

says_deciding : (T : History) (c : CoordinatorState) (v : Verdict) → OwnSayings T c (deciding T (decides c.session v))
says_deciding T c v = record {
  more = deciding_more T (decides c.session v);
  answered = λ a h. h;
  asked = λ name q h. inl h;
  decided = λ session a h. go session a (Contains-push_cases T.decided _ _ h);
}
  where
    go : (session : ℕ) (a : Verdict) → Contains T.decided (decides session a) ⊎ (decides c.session v ≡ decides session a) → Contains T.decided (decides session a) ⊎ (session ≡ c.session)
    go session a (inl p) = inl p
    go session a (inr p) = inr (sym (ap (λ d. d.session) p))

-- what an event leaves, with the history then
abbrev pub IsFairStep : History → CoordinatorState → Reaction → CoordinatorState → Type 0
IsFairStep T c answer new = (U : History) × OwnSayings T c U × IsSettled c.formula (coordinator_base c) U × IsFair U c answer new

quiet : (T : History) (c : CoordinatorState) (answer : Reaction) (new : CoordinatorState) → IsSettled c.formula (coordinator_base c) T → IsFair T c answer new → IsFairStep T c answer new
quiet T c answer new settled fair = (T, says_nothing T c, settled, fair)

-- the reply of which a job's evidence is a prefix is true of the job's leaf
fragment_closes : (T : History) (c : CoordinatorState) (worker : ℕ) (j : Job) (x : Fixed) → IsSettled c.formula (coordinator_base c) T → IsHonestJob T c worker (with_fixed j x) → IsComplete x.evidence
    → answer_of x.evidence.finding ≡ answers.Refuted → Closes (coordinator_base c) (cube_at c j.leaf) x.evidence.bytes
fragment_closes T c worker j x settled job complete refuted =
    let h = job.fixed x refl in
    let all_is : x.evidence.bytes ≡ h.1 = all_there x.evidence h.0 h.1 h.3 complete in
    let answer_is : h.0 ≡ answers.Refuted = sym (answer_there x.evidence h.0 h.1 h.3) ∙ refuted in
    let t : IsTrueReply c.formula (coordinator_base c) T.asked (job_name c j) (Shown h.0 h.1) = settled.true_reply _ _ h.2 in
    let u : IsTrueReply c.formula (coordinator_base c) T.asked (job_name c j) (Shown answers.Refuted h.1) = subst (λ (a : Answer). IsTrueReply c.formula (coordinator_base c) T.asked (job_name c j) (Shown a h.1)) answer_is t in
    let cube_is : u.0 ≡ cube_at c j.leaf = settled.one_cube (job_name c j) u.0 (cube_at c j.leaf) u.1 job.asked in
    subst (Closes (coordinator_base c) (cube_at c j.leaf)) (sym all_is) (subst (λ (q : Cube). Closes (coordinator_base c) q h.1) cube_is u.2)

assignment_right : (T : History) (c : CoordinatorState) (worker : ℕ) (j : Job) (x : Fixed) → IsSettled c.formula (coordinator_base c) T → IsHonestJob T c worker (with_fixed j x) → IsComplete x.evidence
    → answer_of x.evidence.finding ≡ answers.Assignment → (v : Verdict) × IsRightEvidence c.formula answers.Assignment x.evidence.bytes v
assignment_right T c worker j x settled job complete assigned =
    let h = job.fixed x refl in
    let all_is : x.evidence.bytes ≡ h.1 = all_there x.evidence h.0 h.1 h.3 complete in
    let answer_is : h.0 ≡ answers.Assignment = sym (answer_there x.evidence h.0 h.1 h.3) ∙ assigned in
    let t : IsTrueReply c.formula (coordinator_base c) T.asked (job_name c j) (Shown h.0 h.1) = settled.true_reply _ _ h.2 in
    let u : IsTrueReply c.formula (coordinator_base c) T.asked (job_name c j) (Shown answers.Assignment h.1) = subst (λ (a : Answer). IsTrueReply c.formula (coordinator_base c) T.asked (job_name c j) (Shown a h.1)) answer_is t in
    (u.0, subst (λ (b : List ℕ). IsRightEvidence c.formula answers.Assignment b u.0) (sym all_is) u.1)

-- a complete and true fragment is not refused
fragment_fair : (T : History) (c : CoordinatorState) (worker : ℕ) (j : Job) (text : List ℕ) (answer : Reaction) (new : CoordinatorState)
    → IsSettled c.formula (coordinator_base c) T → IsHonestCoordinator T c → IsCoordinator new → c.verdict ≡ Nothing → 1 ≤ worker → slot_of c worker ≡ Some j → Closes (coordinator_base c) (cube_at c j.leaf) text
    → CompletesFragment c worker j text answer new → IsFairStep T c answer new
fragment_fair T c worker j text answer new settled honest is undecided from_1 at true_text (CompletesFragment.wrong wrong a now) = absurd (wrong true_text)
fragment_fair T c worker j text answer new settled honest is undecided from_1 at true_text (CompletesFragment.closes closes some a now) =
    quiet T c answer new settled (drops T c worker j Closed (closed c worker j text).fragments c.stuck answer _ new honest from_1 at a tt now)
fragment_fair T c worker j text answer new settled honest is undecided from_1 at true_text (CompletesFragment.joins closes all proof joined short a now) =
    let v : Verdict = Proof proof in
    let d : Decision = decides c.session v in
    let some : v ≢ Nothing = λ e. cc in
    let right : Right c.formula v = subst (λ (n : CoordinatorState). Right n.formula n.verdict) now is.right in (
      deciding T d,
      says_deciding T c v,
      settled_deciding T c v settled honest undecided some right,
      subst (λ (n : CoordinatorState). IsFair (deciding T d) c answer n) (sym now) (record {
        honest = record {
          jobs = jobs_dropped T (deciding T d) c worker j Closed (closed c worker j text).fragments v c.stuck (deciding_more T d) honest from_1 at;
          next = honest.next;
          decided = λ _. Contains-push T.decided d;
          undecided = λ k h. some;
        };
        plain = plain_by answer _ a tt;
        formula = refl;
        definitions = refl;
        session = refl;
        limit = refl;
      }),
    )
fragment_fair T c worker j text answer new settled honest is undecided from_1 at true_text (CompletesFragment.too_long closes all proof joined long a now) =
    quiet T c answer new settled (drops T c worker j Closed (closed c worker j text).fragments true answer _ new honest from_1 at a tt now)

-- nor is a complete and true assignment
assignment_fair : (T : History) (c : CoordinatorState) (worker : ℕ) (j : Job) (x : Fixed) (answer : Reaction) (new : CoordinatorState)
    → IsSettled c.formula (coordinator_base c) T → IsHonestCoordinator T c → c.verdict ≡ Nothing → 1 ≤ worker → IsHonestJob T c worker (with_fixed j x)
    → (w : Verdict) → IsRightEvidence c.formula answers.Assignment x.evidence.bytes w → CompletesAssignment c worker j x answer new → IsFairStep T c answer new
assignment_fair T c worker j x answer new settled honest undecided from_1 job w true_bytes (CompletesAssignment.holds v evidence a now) =
    let d : Decision = decides c.session v in
    let borne : IsBorneOut answers.Assignment x.evidence.bytes v = borne_out c.formula answers.Assignment x.evidence.bytes v evidence.bears in
    let some : v ≢ Nothing = borne.some in (
      deciding T d,
      says_deciding T c v,
      settled_deciding T c v settled honest undecided some evidence.right,
      subst (λ (n : CoordinatorState). IsFair (deciding T d) c answer n) (sym now) (record {
        honest = record {
          jobs = jobs_with T (deciding T d) c worker (with_fixed j x) v (deciding_more T d) honest from_1 job;
          next = honest.next;
          decided = λ _. Contains-push T.decided d;
          undecided = λ k h. some;
        };
        plain = plain_by answer _ a tt;
        formula = refl;
        definitions = refl;
        session = refl;
        limit = refl;
      }),
    )
assignment_fair T c worker j x answer new settled honest undecided from_1 job w true_bytes (CompletesAssignment.wrong wrong a now) = absurd (wrong w true_bytes)

-- evidence of a true answer is not refused
pub gathers_fair : (T : History) (c : CoordinatorState) (worker : ℕ) (j : Job) (x : Fixed) (answer : Reaction) (new : CoordinatorState)
    → IsSettled c.formula (coordinator_base c) T → IsHonestCoordinator T c → IsCoordinator new → c.verdict ≡ Nothing → 1 ≤ worker → slot_of c worker ≡ Some j → IsHonestJob T c worker (with_fixed j x)
    → ReceivesJobEvidence c worker j x answer new → IsFairStep T c answer new
gathers_fair T c worker j x answer new settled honest is undecided from_1 at job (ReceivesJobEvidence.waits more a now) =
    quiet T c answer new settled (subst (λ (n : CoordinatorState). IsFair T c answer n) (sym now) (record {
      honest = record {
        jobs = jobs_with T T c worker (with_fixed j x) c.verdict (as_much T) honest from_1 job;
        next = honest.next;
        decided = honest.decided;
        undecided = honest.undecided;
      };
      plain = plain_by answer _ a tt;
      formula = refl;
      definitions = refl;
      session = refl;
      limit = refl;
    }))
gathers_fair T c worker j x answer new settled honest is undecided from_1 at job (ReceivesJobEvidence.fragment complete refuted ends) =
    fragment_fair T c worker j x.evidence.bytes answer new settled honest is undecided from_1 at (fragment_closes T c worker j x settled job complete refuted) ends
gathers_fair T c worker j x answer new settled honest is undecided from_1 at job (ReceivesJobEvidence.assignment complete assigned ends) =
    let h = assignment_right T c worker j x settled job complete assigned in
    assignment_fair T c worker j x answer new settled honest undecided from_1 job h.0 h.1 ends
gathers_fair T c worker j x answer new settled honest is undecided from_1 at job (ReceivesJobEvidence.no_memory grows a now) =
    quiet T c answer new settled (unchanged T c answer _ new honest a tt now)

-- a job and a worker's incarnation are an attempt
same_attempt : (attempt : Attempt) (c : CoordinatorState) (j : Job) (incarnation : ℕ) → attempt.session ≡ c.session → attempt.job ≡ j.number → attempt.incarnation ≡ incarnation
    → attempt ≡ attempt_at (job_name c j) attempt.worker incarnation
same_attempt attempt c j incarnation session number inc =
    ap (λ (s : ℕ). record { session = s; job = attempt.job; worker = attempt.worker; incarnation = attempt.incarnation }) session
    ∙ ap (λ (n : ℕ). record { session = c.session; job = n; worker = attempt.worker; incarnation = attempt.incarnation }) number
    ∙ ap (λ (i : ℕ). record { session = c.session; job = j.number; worker = attempt.worker; incarnation = i }) inc

-- what a true Done tells
finding_told : (reply : Reply) (finding : Finding) → told.Decided finding ≡ ending_of reply → (answer : Answer) × (all : List ℕ) × (reply ≡ Shown answer all) × (finding ≡ finding_of answer (length all))
finding_told Met finding e = absurd (never e)
  where
    never : told.Decided finding ≡ told.Limit → ⊥
    never p = cc
finding_told (Shown answer all) finding e = (answer, all, refl, same e)
  where
    same : told.Decided finding ≡ told.Decided (finding_of answer (length all)) → finding ≡ finding_of answer (length all)
    same p = cc

shown_length : (F B : Cnf) (asked : List Asked) (name : JobName) (answer : Answer) (all : List ℕ) → IsTrueReply F B asked name (Shown answer all) → HasWrongLength F (finding_of answer (length all)) → ⊥
shown_length F B asked name answers.Refuted all is_true wrong = wrong
shown_length F B asked name answers.Assignment all is_true wrong = go is_true.0 is_true.1
  where
    go : (v : Verdict) → IsRightEvidence F answers.Assignment all v → ⊥
    go v e =
        let borne : IsBorneOut answers.Assignment all v = borne_out F answers.Assignment all v e.bears in
        let long : length (bytes_in v) ≡ length all = ap length borne.bytes_are in
        let assigned : HasWrongLength F (finding_of (answer_in v) (length (bytes_in v))) =
        subst (λ (k : Answer). HasWrongLength F (finding_of k (length (bytes_in v)))) (sym borne.answer_is) (subst (λ (n : ℕ). HasWrongLength F (finding_of answers.Assignment n)) (sym long) wrong) in
        right_length F v borne.some e.right assigned

-- what a first Done fixes is a prefix of the reply's text
fixes_honest : (T : History) (c : CoordinatorState) (attempt : Attempt) (j : Job) (finding : Finding) (a : Answer) (all : List ℕ) → IsAwaited c attempt.session attempt.job attempt.worker j
    → IsHonestJob T c attempt.worker j → Contains T.answered (answers_so attempt (Shown a all)) → finding ≡ finding_of a (length all)
    → IsHonestJob T c attempt.worker (with_fixed j (first_answer attempt.incarnation finding))
fixes_honest T c attempt j finding a all awaited was known finding_is =
    let own : attempt ≡ attempt_at (job_name c j) attempt.worker attempt.incarnation = same_attempt attempt c j attempt.incarnation awaited.session_is awaited.number_is refl in
    let here : Contains T.answered (answers_so (attempt_at (job_name c j) attempt.worker attempt.incarnation) (Shown a all)) = subst (λ (t : Attempt). Contains T.answered (answers_so t (Shown a all))) own known in
    record { asked = was.asked; given = was.given; fixed = λ x e. first here x (same_some _ x e) }
  where
    first : Contains T.answered (answers_so (attempt_at (job_name c j) attempt.worker attempt.incarnation) (Shown a all)) → (x : Fixed) → first_answer attempt.incarnation finding ≡ x
        → (b : Answer) × (rest : List ℕ) × Contains T.answered (answers_so (attempt_at (job_name c j) attempt.worker x.incarnation) (Shown b rest)) × IsPrefixOf x.evidence b rest
    first told x same = subst (λ (y : Fixed). (b : Answer) × (rest : List ℕ) × Contains T.answered (answers_so (attempt_at (job_name c j) attempt.worker y.incarnation) (Shown b rest)) × IsPrefixOf y.evidence b rest) same
        (a, all, told, record { finding = finding_is; front = empty_front all })

-- the jobs of other workers after a split
jobs_split : (T : History) (c : CoordinatorState) (worker : ℕ) (j : Job) (v : ℕ) → IsHonestCoordinator T c → 1 ≤ worker → slot_of c worker ≡ Some j
    → (w : ℕ) (i : Job) → 1 ≤ w → slot_of (split c worker j v) w ≡ Some i → IsHonestJob T (split c worker j v) w i
jobs_split T c worker j v honest from_1 at w i w_from_1 h = go (job_before j.leaf _ i (sym (shift_at (slice_set c.jobs (worker - 1) None) j.leaf (w - 1)) ∙ h))
  where
    open_given : Some Open ≡ Some (GivenTo w) → ⊥
    open_given e = cc

    inside : j.leaf < length c.leaves
    inside = slice_get_within c.leaves j.leaf _ (honest.jobs worker j from_1 at).given

    go : (o : Job) × (get_or (slice_set c.jobs (worker - 1) None) (w - 1) None ≡ Some o) × (record o { leaf = shifted j.leaf o.leaf } ≡ i) → IsHonestJob T (split c worker j v) w i
    go (o, was, same) =
        let job : IsHonestJob T (dropped c worker j Open c.fragments c.verdict c.stuck) w o =
        jobs_dropped T T c worker j Open c.fragments c.verdict c.stuck (as_much T) honest from_1 at w o w_from_1 was in
        let other : o.leaf ≢ j.leaf = λ e. open_given (sym (got_set_same c.leaves j.leaf Open inside) ∙ sym (ap (slice_get (slice_set c.leaves j.leaf Open)) e) ∙ job.given) in
        let cube : cube_at (split c worker j v) (shifted j.leaf o.leaf) ≡ cube_at c o.leaf = branched_read c.tree j.leaf o.leaf v other in
        let given : slice_get (doubled j.leaf Open c.leaves) (shifted j.leaf o.leaf) ≡ Some (GivenTo w) =
        ap (λ (l : List LeafState). slice_get l (shifted j.leaf o.leaf)) (sym (doubled_set c.leaves j.leaf Open Open)) ∙ doubled_at (slice_set c.leaves j.leaf Open) j.leaf o.leaf Open other ∙ job.given in
        subst (IsHonestJob T (split c worker j v) w) same (record {
          asked = subst (λ (q : Cube). Contains T.asked (asks (job_name c o) q)) (sym cube) job.asked;
          given = given;
          fixed = job.fixed;
        })

-- a Done with the limit is not refused
limit_fair : (T : History) (c : CoordinatorState) (worker : ℕ) (j : Job) (answer : Reaction) (new : CoordinatorState) → IsHonestCoordinator T c → job_at c worker ≡ Some j → DeliversLimit c worker j answer new → IsFair T c answer new
limit_fair T c worker j answer new honest at (DeliversLimit.splits v can a now) = subst (λ (n : CoordinatorState). IsFair T c answer n) (sym now) (record {
  honest = record {
    jobs = jobs_split T c worker j v honest (job_from_1 c worker j at) (job_desk c worker j at);
    next = honest.next;
    decided = honest.decided;
    undecided = honest.undecided;
  };
  plain = plain_by answer _ a tt;
  formula = refl;
  definitions = refl;
  session = refl;
  limit = refl;
})
limit_fair T c worker j answer new honest at (DeliversLimit.stops whole a now) = subst (λ (n : CoordinatorState). IsFair T c answer n) (sym now) (record {
  honest = record {
    jobs = λ w i from_1 h. let was = honest.jobs w i from_1 h in job_stays T T c (record c { stuck = true }) w i (as_much T) refl refl was.given was;
    next = honest.next;
    decided = honest.decided;
    undecided = honest.undecided;
  };
  plain = plain_by answer _ a tt;
  formula = refl;
  definitions = refl;
  session = refl;
  limit = refl;
})
limit_fair T c worker j answer new honest at (DeliversLimit.no_memory may a now) = unchanged T c answer _ new honest a tt now

-- a true first Done is not refused
first_fair : (T : History) (c : CoordinatorState) (attempt : Attempt) (j : Job) (ending : Ending) (answer : Reaction) (new : CoordinatorState)
    → IsSettled c.formula (coordinator_base c) T → IsHonestCoordinator T c → IsCoordinator new → (reply : Reply) → Contains T.answered (answers_so attempt reply) → ending ≡ ending_of reply
    → IsAwaited c attempt.session attempt.job attempt.worker j → DeliversFirstDone c attempt j ending answer new → IsFairStep T c answer new
first_fair T c attempt j ending answer new settled honest is reply known says awaited (DeliversFirstDone.limited end meets) =
    quiet T c answer new settled (limit_fair T c attempt.worker j answer new honest awaited.job meets)
first_fair T c attempt j ending answer new settled honest is reply known says awaited (DeliversFirstDone.wrong_length finding end wrong a now) =
    let h = finding_told reply finding (sym end ∙ says) in
    let shown : Contains T.answered (answers_so attempt (Shown h.0 h.1)) = subst (λ (r : Reply). Contains T.answered (answers_so attempt r)) h.2 known in
    absurd (shown_length c.formula (coordinator_base c) T.asked (name_of attempt) h.0 h.1 (settled.true_reply attempt _ shown) (subst (HasWrongLength c.formula) h.3 wrong))
first_fair T c attempt j ending answer new settled honest is reply known says awaited (DeliversFirstDone.fixes finding end long gathers) =
    let h = finding_told reply finding (sym end ∙ says) in
    let shown : Contains T.answered (answers_so attempt (Shown h.0 h.1)) = subst (λ (r : Reply). Contains T.answered (answers_so attempt r)) h.2 known in
    let from_1 : 1 ≤ attempt.worker = job_from_1 c attempt.worker j awaited.job in
    let at : slot_of c attempt.worker ≡ Some j = job_desk c attempt.worker j awaited.job in
    gathers_fair T c attempt.worker j (first_answer attempt.incarnation finding) answer new settled honest is awaited.deciding.undecided from_1 at
    (fixes_honest T c attempt j finding h.0 h.1 awaited (honest.jobs attempt.worker j from_1 at) shown h.3) gathers

-- a true Done is not refused
done_fair : (T : History) (c : CoordinatorState) (attempt : Attempt) (ending : Ending) (answer : Reaction) (new : CoordinatorState)
    → IsSettled c.formula (coordinator_base c) T → IsHonestCoordinator T c → IsCoordinator new → (reply : Reply) → Contains T.answered (answers_so attempt reply) → ending ≡ ending_of reply
    → DeliversDone c attempt ending answer new → IsFairStep T c answer new
done_fair T c attempt ending answer new settled honest is reply known says (DeliversDone.is_ignored none a now) = quiet T c answer new settled (unchanged T c answer _ new honest a tt now)
done_fair T c attempt ending answer new settled honest is reply known says (DeliversDone.first j awaited free answered) =
    first_fair T c attempt j ending answer new settled honest is reply known says awaited answered
done_fair T c attempt ending answer new settled honest is reply known says (DeliversDone.again j x fetched a now) = quiet T c answer new settled (unchanged T c answer _ new honest a tt now)
done_fair T c attempt ending answer new settled honest is reply known says (DeliversDone.anew j x awaited fixed other a now) =
    quiet T c answer new settled (drops T c attempt.worker j Open c.fragments c.stuck answer _ new honest (job_from_1 c attempt.worker j awaited.job) (job_desk c attempt.worker j awaited.job) a tt now)

-- a true Piece is not refused
piece_fair : (T : History) (c : CoordinatorState) (attempt : Attempt) (offset : ℕ) (bytes : List ℕ) (answer : Reaction) (new : CoordinatorState)
    → IsSettled c.formula (coordinator_base c) T → IsHonestCoordinator T c → IsCoordinator new → (shown : Answer) (all : List ℕ) → Contains T.answered (answers_so attempt (Shown shown all)) → HasBytesAt all offset bytes
    → DeliversPiece c attempt offset bytes answer new → IsFairStep T c answer new
piece_fair T c attempt offset bytes answer new settled honest is shown all known stands (DeliversPiece.is_ignored none a now) = quiet T c answer new settled (unchanged T c answer _ new honest a tt now)
piece_fair T c attempt offset bytes answer new settled honest is shown all known stands (DeliversPiece.appends j x fits gathers) =
    let awaited = fits.fetched.awaited in
    let from_1 : 1 ≤ attempt.worker = job_from_1 c attempt.worker j awaited.job in
    let at : slot_of c attempt.worker ≡ Some j = job_desk c attempt.worker j awaited.job in
    let was : IsHonestJob T c attempt.worker j = honest.jobs attempt.worker j from_1 at in
    let h = was.fixed x fits.fetched.fixed in
    let own : attempt ≡ attempt_at (job_name c j) attempt.worker x.incarnation = same_attempt attempt c j x.incarnation awaited.session_is awaited.number_is fits.fetched.incarnation in
    let here : Contains T.answered (answers_so (attempt_at (job_name c j) attempt.worker x.incarnation) (Shown shown all)) = subst (λ (t : Attempt). Contains T.answered (answers_so t (Shown shown all))) own known in
    let same : all ≡ h.1 = shown_same shown h.0 all h.1 (settled.one_reply _ _ _ here h.2) in
    let front : IsPrefix (x.evidence.bytes ++ bytes) h.1 = front_grows x.evidence.bytes h.1 bytes offset h.3.front (subst (λ (k : List ℕ). HasBytesAt k offset bytes) same stands) fits.comes.next in
    gathers_fair T c attempt.worker j (record x { evidence = with_bytes x.evidence bytes }) answer new settled honest is awaited.deciding.undecided from_1 at
    (record { asked = was.asked; given = was.given; fixed = λ y e. longer h.0 h.1 h.2 (record { finding = h.3.finding; front = front }) y (same_some _ y e) }) gathers
  where
    shown_same : (a b : Answer) (p q : List ℕ) → Shown a p ≡ Shown b q → p ≡ q
    shown_same a b p q e = cc

    longer : (a : Answer) (rest : List ℕ) → Contains T.answered (answers_so (attempt_at (job_name c j) attempt.worker x.incarnation) (Shown a rest)) → IsPrefixOf (with_bytes x.evidence bytes) a rest
        → (y : Fixed) → record x { evidence = with_bytes x.evidence bytes } ≡ y
        → (b : Answer) × (whole : List ℕ) × Contains T.answered (answers_so (attempt_at (job_name c j) attempt.worker y.incarnation) (Shown b whole)) × IsPrefixOf y.evidence b whole
    longer a rest told front y same = subst (λ (z : Fixed). (b : Answer) × (whole : List ℕ) × Contains T.answered (answers_so (attempt_at (job_name c j) attempt.worker z.incarnation) (Shown b whole)) × IsPrefixOf z.evidence b whole) same
        (a, rest, told, front)

idle_fair : (T : History) (c : CoordinatorState) (worker incarnation : ℕ) (answer : Reaction) (new : CoordinatorState)
    → IsHonestCoordinator T c → DeliversIdle c worker incarnation answer new → IsFair T c answer new
idle_fair T c worker incarnation answer new honest (DeliversIdle.is_ignored none a now) = unchanged T c answer _ new honest a tt now
idle_fair T c worker incarnation answer new honest (DeliversIdle.anew j stale a now) = drops T c worker j Open c.fragments c.stuck answer _ new honest (job_from_1 c worker j stale.job) (job_desk c worker j stale.job) a tt now

want_fair : (T : History) (c : CoordinatorState) (session worker offset : ℕ) (answer : Reaction) (new : CoordinatorState)
    → IsHonestCoordinator T c → DeliversWant c session worker offset answer new → IsFair T c answer new
want_fair T c session worker offset answer new honest (DeliversWant.is_ignored none a now) = unchanged T c answer _ new honest a tt now
want_fair T c session worker offset answer new honest (DeliversWant.notes wanted a now) = subst (λ (n : CoordinatorState). IsFair T c answer n) (sym now) (record {
  honest = record {
    jobs = λ w i from_1 h. let was = honest.jobs w i from_1 h in job_stays T T c (record c { wants = slice_set c.wants (worker - 1) (Some offset) }) w i (as_much T) refl refl was.given was;
    next = honest.next;
    decided = honest.decided;
    undecided = honest.undecided;
  };
  plain = plain_by answer _ a tt;
  formula = refl;
  definitions = refl;
  session = refl;
  limit = refl;
})

-- a true frame leaves a coordinator honest, and is not refused
pub frame_fair : (T : History) (limit : ℕ) (c : CoordinatorState) (frame : Frame) (answer : Reaction) (new : CoordinatorState)
    → IsSettled c.formula (coordinator_base c) T → IsHonestCoordinator T c → IsCoordinator new → IsTrueFrame T limit frame → CoordinatorDelivers c frame answer new → IsFairStep T c answer new
frame_fair T limit c (Done attempt ending) answer new settled honest is says step = done_fair T c attempt ending answer new settled honest is says.0 says.1 says.2 step
frame_fair T limit c (Piece attempt offset bytes) answer new settled honest is says step = piece_fair T c attempt offset bytes answer new settled honest is says.0 says.1 says.2 says.3 step
frame_fair T limit c (Idle worker incarnation) answer new settled honest is says step = quiet T c answer new settled (idle_fair T c worker incarnation answer new honest step)
frame_fair T limit c (Want session worker offset) answer new settled honest is says step = quiet T c answer new settled (want_fair T c session worker offset answer new honest step)
frame_fair T limit c (Task session job bound cube) answer new settled honest is says step = quiet T c answer new settled (unchanged T c answer _ new honest step.0 tt step.1)
frame_fair T limit c (Fetch attempt offset) answer new settled honest is says step = quiet T c answer new settled (unchanged T c answer _ new honest step.0 tt step.1)
frame_fair T limit c (VerdictFrame session finding) answer new settled honest is says step = quiet T c answer new settled (unchanged T c answer _ new honest step.0 tt step.1)
frame_fair T limit c (Part session part offset bytes) answer new settled honest is says step = quiet T c answer new settled (unchanged T c answer _ new honest step.0 tt step.1)
frame_fair T limit c Rest answer new settled honest is says step = quiet T c answer new settled (unchanged T c answer _ new honest step.0 tt step.1)
