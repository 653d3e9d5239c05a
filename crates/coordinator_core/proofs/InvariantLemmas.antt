-- The invariant of a coordinator under every change: its verdict is right, and closed leaves have fragments that close their cubes.
use Rattle.std.proofs.Common.{◌≡◌, ◌≢◌, ℕ, zero, suc, ◌+◌, ◌-◌, ◌<◌, ◌≤◌, ◌^◌, Bool, true, false, List, [], ◌∷◌, length, Option, Some, None, slice_get, slice_set, get_or, refl, subst, sym, ap, ◌∙◌, ◌⊎◌, inl, inr, arith}
use Rattle.std.specs.Prelude.{All}
use Rattle.std.proofs.lemmas.Bool.{cases_lt}
use Rattle.std.proofs.lemmas.List.{length-set, get_or-set_same, get_or-set_other, set_past}
use Rattle.std.proofs.lemmas.Option.{slice_get-get_or}
use Rattle.dimacs.specs.logic.Cnf.{Cnf}
use Rattle.icnf.specs.Leaves.{Cube}
use Rattle.lrat_text.specs.Log.{Closes}
use Rattle.lrat_check.specs.Verdicts.{Right}
use Rattle.lrat_check.specs.declared.verdict.Verdict.{Verdict}
use Rattle.lrat_check.specs.declared.verdict.Verdict.TheVariants.{Nothing, Proof}
use Rattle.cube_split.specs.Definitions.{IsPairOf}
use Rattle.cube_split.proofs.DefinedLemmas.{all_chosen, few_chosen}
use Rattle.proof_join.specs.JoinedProof.{AllClose}
use Rattle.evidence.specs.Evidence.{bytes_in}
use Rattle.coordinator_core.specs.Coordinator.{CoordinatorState, AreClosed, IsDeciding, coordinator_base, cube_at, job_at, want_at, with_job, reopened, closed, gives, new_job}
use Rattle.coordinator_core.specs.Invariant.{IsCoordinator, HasJoined, HasTables, IsJobAt, FitsFixed, IsNote}
use Rattle.coordinator_core.specs.declared.job_state.Job.{Job}
use Rattle.coordinator_core.specs.declared.job_state.LeafState.{LeafState}
use Rattle.coordinator_core.specs.declared.job_state.LeafState.TheVariants.{Open, GivenTo, Closed}
use Rattle.coordinator_core.specs.inner.LeafTable.{LeafRows}
use Rattle.coordinator_core.proofs.Places.{got_within, got_set_cases, got_set_other, got_set_same, read_set_cases, read_within}

same_some : {X : Type 0} (a b : X) → Some a ≡ Some b → a ≡ b
same_some a b e = cc

none_some : {X : Type 0} (a : X) → None ≡ Some a → ⊥
none_some a e = cc

same_worker : (a b : ℕ) → Some (GivenTo (a + 1)) ≡ Some (GivenTo (b + 1)) → a ≡ b
same_worker a b e = let next : a + 1 ≡ b + 1 = from (a + 1) (b + 1) e in omega (arith, next)
  where
    from : (p q : ℕ) → Some (GivenTo p) ≡ Some (GivenTo q) → p ≡ q
    from p q h = cc

open_is_not_closed : Open ≢ Closed
open_is_not_closed e = cc

given_is_not_closed : (worker : ℕ) → GivenTo worker ≢ Closed
given_is_not_closed worker e = cc

-- without a verdict no offset is noted, so each noted offset is one of any bytes
none_wanted : (c : CoordinatorState) → IsCoordinator c → c.verdict ≡ Nothing → (worker : ℕ) (bytes : List ℕ) → IsNote (want_at c worker) bytes
none_wanted c is undecided worker bytes offset noted =
    let below : offset < length (bytes_in Nothing) = subst (λ (v : Verdict). offset < length (bytes_in v)) undecided (is.wanted worker offset noted) in
    absurd (omega (arith, below))

-- a coordinator that is deciding has an open leaf, or a given one
pub not_ended : (c : CoordinatorState) → IsCoordinator c → IsDeciding c → AreClosed c.leaves → ⊥
not_ended c is deciding all = let h = is.ended all in go h.text h.end
  where
    go : (text : List ℕ) → (c.verdict ≡ Proof text) ⊎ ((c.stuck ≡ true) × (2 ^ 32 ≤ length text)) → ⊥
    go text (inl p) = let e : Nothing ≡ Proof text = sym deciding.undecided ∙ p in cc
    go text (inr p) = let e : false ≡ true = sym deciding.going ∙ p.0 in cc

-- the invariant of the verdict stays if only tables change
still_joined : (c new : CoordinatorState) → HasJoined c → new.formula ≡ c.formula → new.definitions ≡ c.definitions → new.tree ≡ c.tree → new.fragments ≡ c.fragments → new.verdict ≡ c.verdict → new.stuck ≡ c.stuck → HasJoined new
still_joined c new h f d t g v s = record {
  text = h.text;
  joined = rw (f, d, t, g) h.joined;
  end = rw (v, s) h.end;
}

-- the tables with as many entries
resized : (tree : List Cube) (leaves l : List LeafState) (fragments g : List (List ℕ)) (jobs j : List (Option Job)) (wants w : List (Option ℕ))
    → HasTables tree leaves fragments jobs wants → length l ≡ length leaves → length g ≡ length fragments → length j ≡ length jobs → length w ≡ length wants → HasTables tree l g j w
resized tree leaves l fragments g jobs j wants w t a b d e = record {
  each_leaf = a ∙ t.each_leaf;
  each_fragment = b ∙ t.each_fragment;
  some_worker = omega (arith, d, t.some_worker);
  few_workers = omega (arith, d, t.few_workers);
  each_want = e ∙ t.each_want ∙ sym d;
}

-- after a leaf was set to a state other than closed, not all leaves are closed, or nothing was set
unclosed : (c : CoordinatorState) (leaf : ℕ) (l : LeafState) → l ≢ Closed → AreClosed (slice_set c.leaves leaf l) → AreClosed c.leaves
unclosed c leaf l n all = go (cases_lt leaf (length c.leaves))
  where
    go : (leaf < length c.leaves) ⊎ (length c.leaves ≤ leaf) → AreClosed c.leaves
    go (inl lt) =
        let inside : leaf < length (slice_set c.leaves leaf l) = omega (arith, lt, length-set c.leaves leaf l) in
        absurd (n (sym (get_or-set_same c.leaves leaf l Open lt) ∙ all leaf Open inside))
    go (inr past) = subst AreClosed (set_past c.leaves leaf l past) all

still_closed : (c : CoordinatorState) (leaf : ℕ) (l : LeafState) → l ≢ Closed → (i : ℕ) → slice_get (slice_set c.leaves leaf l) i ≡ Some Closed → slice_get c.leaves i ≡ Some Closed
still_closed c leaf l n i h = go (got_set_cases c.leaves leaf i l Closed h)
  where
    go : ((i ≡ leaf) × (i < length c.leaves) × (l ≡ Closed)) ⊎ ((i ≢ leaf) × (slice_get c.leaves i ≡ Some Closed)) → slice_get c.leaves i ≡ Some Closed
    go (inl p) = absurd (n p.2)
    go (inr p) = p.1

one_less : (k : ℕ) → suc k - 1 ≡ k
one_less k = omega arith

-- the slot of a worker that has a job
pub at_desk : (c : CoordinatorState) (worker : ℕ) (j : Job) → job_at c worker ≡ Some j → get_or c.jobs (worker - 1) None ≡ Some j
at_desk c zero j h = absurd (none_some j h)
at_desk c (suc k) j h = ap (λ (i : ℕ). get_or c.jobs i None) (one_less k) ∙ h

-- the job of a worker satisfies the invariant
pub job_is : (c : CoordinatorState) (worker : ℕ) (j : Job) → job_at c worker ≡ Some j → IsCoordinator c → IsJobAt c.leaves (worker - 1) j
job_is c worker j at is = is.jobs (worker - 1) j (at_desk c worker j at)

-- the jobs of other workers keep their leaves if a worker loses its own
pub dropped_jobs : (c : CoordinatorState) (worker : ℕ) (j : Job) (l : LeafState) → IsCoordinator c → job_at c worker ≡ Some j
    → (k : ℕ) (i : Job) → get_or (slice_set c.jobs (worker - 1) None) k None ≡ Some i → IsJobAt (slice_set c.leaves j.leaf l) k i
dropped_jobs c worker j l is at k i h = go (read_set_cases c.jobs (worker - 1) k None None (Some i) h)
  where
    differ : k ≢ worker - 1 → get_or c.jobs k None ≡ Some i → IsJobAt (slice_set c.leaves j.leaf l) k i
    differ n was =
        let here : slice_get c.leaves i.leaf ≡ Some (GivenTo (k + 1)) = (is.jobs k i was).given in
        let there : slice_get c.leaves j.leaf ≡ Some (GivenTo ((worker - 1) + 1)) = (job_is c worker j at is).given in
        record {
          given = got_set_other c.leaves j.leaf i.leaf l (GivenTo (k + 1)) (λ e. n (same_worker k (worker - 1) (sym here ∙ ap (slice_get c.leaves) e ∙ there))) here;
          fits = (is.jobs k i was).fits;
        }

    go : ((k ≡ worker - 1) × (None ≡ Some i)) ⊎ (((k ≢ worker - 1) ⊎ (length c.jobs ≤ worker - 1)) × (get_or c.jobs k None ≡ Some i)) → IsJobAt (slice_set c.leaves j.leaf l) k i
    go (inl p) = absurd (none_some i p.1)
    go (inr p) = apart p.0 p.1
      where
        apart : (k ≢ worker - 1) ⊎ (length c.jobs ≤ worker - 1) → get_or c.jobs k None ≡ Some i → IsJobAt (slice_set c.leaves j.leaf l) k i
        apart (inl n) was = differ n was
        apart (inr past) was = let lt : worker - 1 < length c.jobs = read_within c.jobs (worker - 1) j (at_desk c worker j at) in absurd (omega (arith, lt, past))

-- a worker has another job, or none
pub with_job_is : (c : CoordinatorState) (worker : ℕ) (o : Option Job) → ((j : Job) → o ≡ Some j → IsJobAt c.leaves (worker - 1) j) → IsCoordinator c → IsCoordinator (with_job c worker o)
with_job_is c worker o fair is = record {
  right = is.right;
  ended = λ all. still_joined c (with_job c worker o) (is.ended all) refl refl refl refl refl refl;
  grounds = is.grounds;
  tables = resized c.tree c.leaves c.leaves c.fragments c.fragments c.jobs (slice_set c.jobs (worker - 1) o) c.wants c.wants is.tables refl refl (length-set c.jobs (worker - 1) o) refl;
  jobs = λ n i h. go n i (read_set_cases c.jobs (worker - 1) n o None (Some i) h);
  closing = is.closing;
  next = is.next;
  stuck = is.stuck;
  short = is.short;
  wanted = is.wanted;
}
  where
    go : (n : ℕ) (i : Job) → ((n ≡ worker - 1) × (o ≡ Some i)) ⊎ (((n ≢ worker - 1) ⊎ (length c.jobs ≤ worker - 1)) × (get_or c.jobs n None ≡ Some i)) → IsJobAt c.leaves n i
    go n i (inl p) = subst (λ (k : ℕ). IsJobAt c.leaves k i) (sym p.0) (fair i p.1)
    go n i (inr p) = is.jobs n i p.1

-- with other evidence for the same job
pub with_fixed_is : (c : CoordinatorState) (worker : ℕ) (j k : Job) → job_at c worker ≡ Some j → k.leaf ≡ j.leaf → FitsFixed k.fixed → IsCoordinator c → IsCoordinator (with_job c worker (Some k))
with_fixed_is c worker j k at leaf fits is =
    with_job_is c worker (Some k) (λ i e. subst (IsJobAt c.leaves (worker - 1)) (same_some k i e)
    (record { given = ap (slice_get c.leaves) leaf ∙ (job_is c worker j at is).given; fits = fits })) is

pub is_reopened : (c : CoordinatorState) (worker : ℕ) (j : Job) → job_at c worker ≡ Some j → IsCoordinator c → IsCoordinator (reopened c worker j)
is_reopened c worker j at is = record {
  right = is.right;
  ended = λ all. still_joined c (reopened c worker j) (is.ended (unclosed c j.leaf Open open_is_not_closed all)) refl refl refl refl refl refl;
  grounds = is.grounds;
  tables = resized c.tree c.leaves (slice_set c.leaves j.leaf Open) c.fragments c.fragments c.jobs (slice_set c.jobs (worker - 1) None) c.wants c.wants is.tables
      (length-set c.leaves j.leaf Open) refl (length-set c.jobs (worker - 1) None) refl;
  jobs = dropped_jobs c worker j Open is at;
  closing = λ i h. is.closing i (still_closed c j.leaf Open open_is_not_closed i h);
  next = is.next;
  stuck = is.stuck;
  short = is.short;
  wanted = is.wanted;
}

pub is_given : (c : CoordinatorState) (worker leaf : ℕ) → 1 ≤ worker → c.next < 2 ^ 64 → slice_get c.leaves leaf ≡ Some Open → leaf < length c.leaves → IsCoordinator c → IsCoordinator (gives c worker leaf)
is_given c worker leaf from_1 left free inside is = record {
  right = is.right;
  ended = λ all. still_joined c (gives c worker leaf) (is.ended (unclosed c leaf (GivenTo worker) (given_is_not_closed worker) all)) refl refl refl refl refl refl;
  grounds = is.grounds;
  tables = resized c.tree c.leaves (slice_set c.leaves leaf (GivenTo worker)) c.fragments c.fragments c.jobs (slice_set c.jobs (worker - 1) (Some (new_job c leaf))) c.wants c.wants is.tables
      (length-set c.leaves leaf (GivenTo worker)) refl (length-set c.jobs (worker - 1) (Some (new_job c leaf))) refl;
  jobs = λ n i h. go n i (read_set_cases c.jobs (worker - 1) n (Some (new_job c leaf)) None (Some i) h);
  closing = λ i h. is.closing i (still_closed c leaf (GivenTo worker) (given_is_not_closed worker) i h);
  next = omega (arith, left);
  stuck = is.stuck;
  short = is.short;
  wanted = is.wanted;
}
  where
    not_open : (n : ℕ) → Some (GivenTo n) ≡ Some Open → ⊥
    not_open n e = cc

    none_fixed : FitsFixed None
    none_fixed x e = absurd (none_some x e)

    go : (n : ℕ) (i : Job) → ((n ≡ worker - 1) × (Some (new_job c leaf) ≡ Some i)) ⊎ (((n ≢ worker - 1) ⊎ (length c.jobs ≤ worker - 1)) × (get_or c.jobs n None ≡ Some i))
        → IsJobAt (slice_set c.leaves leaf (GivenTo worker)) n i
    go n i (inl p) =
        let same : new_job c leaf ≡ i = same_some (new_job c leaf) i p.1 in
        let at : n ≡ worker - 1 = p.0 in
        let number : worker ≡ n + 1 = omega (arith, at, from_1) in
        subst (IsJobAt (slice_set c.leaves leaf (GivenTo worker)) n) same
        (record { given = got_set_same c.leaves leaf (GivenTo worker) inside ∙ ap (λ (m : ℕ). Some (GivenTo m)) number; fits = none_fixed })
    go n i (inr p) =
        let was : slice_get c.leaves i.leaf ≡ Some (GivenTo (n + 1)) = (is.jobs n i p.1).given in
        record {
          given = got_set_other c.leaves leaf i.leaf (GivenTo worker) (GivenTo (n + 1)) (λ e. not_open (n + 1) (sym was ∙ ap (slice_get c.leaves) e ∙ free)) was;
          fits = (is.jobs n i p.1).fits;
        }

pub is_stuck : (c : CoordinatorState) → IsDeciding c → IsCoordinator c → IsCoordinator (record c { stuck = true })
is_stuck c deciding is = record {
  right = is.right;
  ended = λ all. absurd (not_ended c is deciding all);
  grounds = is.grounds;
  tables = is.tables;
  jobs = is.jobs;
  closing = is.closing;
  next = is.next;
  stuck = λ _. deciding.undecided;
  short = is.short;
  wanted = is.wanted;
}

-- with a verdict, if the coordinator was deciding
pub is_decided : (c : CoordinatorState) (v : Verdict) → IsDeciding c → Right c.formula v → length (bytes_in v) < 2 ^ 32 → IsCoordinator c → IsCoordinator (record c { verdict = v })
is_decided c v deciding right short is = record {
  right = right;
  ended = λ all. absurd (not_ended c is deciding all);
  grounds = is.grounds;
  tables = is.tables;
  jobs = is.jobs;
  closing = is.closing;
  next = is.next;
  stuck = λ on. let e : false ≡ true = sym deciding.going ∙ on in cc;
  short = short;
  wanted = λ worker. none_wanted c is deciding.undecided worker (bytes_in v);
}

-- after a leaf was closed each closed leaf has a fragment that closes it
closed_closing : (c : CoordinatorState) (worker : ℕ) (j : Job) (text : List ℕ) → IsCoordinator c → Closes (coordinator_base c) (cube_at c j.leaf) text
    → (i : ℕ) → slice_get (closed c worker j text).leaves i ≡ Some Closed → Closes (coordinator_base c) (cube_at c i) (get_or (closed c worker j text).fragments i [])
closed_closing c worker j text is closes i h = go (got_set_cases c.leaves j.leaf i Closed Closed h)
  where
    go : ((i ≡ j.leaf) × (i < length c.leaves) × (Closed ≡ Closed)) ⊎ ((i ≢ j.leaf) × (slice_get c.leaves i ≡ Some Closed))
        → Closes (coordinator_base c) (cube_at c i) (get_or (slice_set c.fragments j.leaf text) i [])
    go (inl p) =
        let at : i ≡ j.leaf = p.0 in
        let lt : i < length c.leaves = p.1 in
        let inside : j.leaf < length c.fragments = omega (arith, at, lt, is.tables.each_leaf, is.tables.each_fragment) in
        let now : get_or (slice_set c.fragments j.leaf text) j.leaf [] ≡ text = get_or-set_same c.fragments j.leaf text [] inside in
        let there : Closes (coordinator_base c) (cube_at c j.leaf) (get_or (slice_set c.fragments j.leaf text) j.leaf []) = subst (Closes (coordinator_base c) (cube_at c j.leaf)) (sym now) closes in
        subst (λ (k : ℕ). Closes (coordinator_base c) (cube_at c k) (get_or (slice_set c.fragments j.leaf text) k [])) (sym at) there
    go (inr p) =
        let now : get_or (slice_set c.fragments j.leaf text) i [] ≡ get_or c.fragments i [] = get_or-set_other c.fragments j.leaf i text [] p.0 in
        subst (Closes (coordinator_base c) (cube_at c i)) (sym now) (is.closing i p.1)

-- fragments that close the leaves place by place
pub all_close : (B : Cnf) (tree : List Cube) (texts : List (List ℕ)) → length texts ≡ length tree → ((i : ℕ) → i < length tree → Closes B (get_or tree i []) (get_or texts i [])) → AllClose B tree texts
all_close B [] [] e h = tt
all_close B [] (t ∷ texts) e h = absurd (omega (arith, e))
all_close B (q ∷ tree) [] e h = absurd (omega (arith, e))
all_close B (q ∷ tree) (t ∷ texts) e h = (h 0 (omega arith), all_close B tree texts (omega (arith, e)) (λ i lt. h (suc i) (omega (arith, lt))))

-- if all leaves are closed then, all have their fragments
pub closed_all : (c : CoordinatorState) (worker : ℕ) (j : Job) (text : List ℕ) → IsCoordinator c → Closes (coordinator_base c) (cube_at c j.leaf) text
    → AreClosed (closed c worker j text).leaves → AllClose (coordinator_base c) c.tree (closed c worker j text).fragments
closed_all c worker j text is closes all =
    all_close (coordinator_base c) c.tree (closed c worker j text).fragments (length-set c.fragments j.leaf text ∙ is.tables.each_fragment) (λ i lt.
    let inside : i < length (closed c worker j text).leaves = omega (arith, lt, is.tables.each_leaf, length-set c.leaves j.leaf Closed) in
    let got : slice_get (closed c worker j text).leaves i ≡ Some Closed =
    slice_get-get_or (closed c worker j text).leaves i Open inside ∙ ap (λ (l : LeafState). Some l) (all i Open inside) in
    closed_closing c worker j text is closes i got)

-- a leaf was closed; if it was the last one, `HasJoined` holds
pub is_closed : (c : CoordinatorState) (worker : ℕ) (j : Job) (text : List ℕ) (v : Verdict) (stuck : Bool) → job_at c worker ≡ Some j → IsCoordinator c → c.verdict ≡ Nothing
    → Closes (coordinator_base c) (cube_at c j.leaf) text → Right c.formula v → length (bytes_in v) < 2 ^ 32 → (stuck ≡ true → v ≡ Nothing)
    → (AreClosed (closed c worker j text).leaves → HasJoined (record (closed c worker j text) { verdict = v; stuck = stuck }))
    → IsCoordinator (record (closed c worker j text) { verdict = v; stuck = stuck })
is_closed c worker j text v stuck at is undecided closes right short alone ended = record {
  right = right;
  ended = ended;
  grounds = is.grounds;
  tables = resized c.tree c.leaves (slice_set c.leaves j.leaf Closed) c.fragments (slice_set c.fragments j.leaf text) c.jobs (slice_set c.jobs (worker - 1) None) c.wants c.wants is.tables
      (length-set c.leaves j.leaf Closed) (length-set c.fragments j.leaf text) (length-set c.jobs (worker - 1) None) refl;
  jobs = dropped_jobs c worker j Closed is at;
  closing = closed_closing c worker j text is closes;
  next = is.next;
  stuck = alone;
  short = short;
  wanted = λ w. none_wanted c is undecided w (bytes_in v);
}

-- with another noted offset
pub is_noted : (c : CoordinatorState) (worker : ℕ) (o : Option ℕ) → 1 ≤ worker → IsNote o (bytes_in c.verdict) → IsCoordinator c → IsCoordinator (record c { wants = slice_set c.wants (worker - 1) o })
is_noted c worker o from_1 noted is = record {
  right = is.right;
  ended = λ all. still_joined c (record c { wants = slice_set c.wants (worker - 1) o }) (is.ended all) refl refl refl refl refl refl;
  grounds = is.grounds;
  tables = resized c.tree c.leaves c.leaves c.fragments c.fragments c.jobs c.jobs c.wants (slice_set c.wants (worker - 1) o) is.tables refl refl refl (length-set c.wants (worker - 1) o);
  jobs = is.jobs;
  closing = is.closing;
  next = is.next;
  stuck = is.stuck;
  short = is.short;
  wanted = at;
}
  where
    at : (w : ℕ) → IsNote (want_at (record c { wants = slice_set c.wants (worker - 1) o }) w) (bytes_in c.verdict)
    at zero offset e = absurd (none_some offset e)
    at (suc k) offset e = go (read_set_cases c.wants (worker - 1) k o None (Some offset) e)
      where
        go : ((k ≡ worker - 1) × (o ≡ Some offset)) ⊎ (((k ≢ worker - 1) ⊎ (length c.wants ≤ worker - 1)) × (get_or c.wants k None ≡ Some offset)) → offset < length (bytes_in c.verdict)
        go (inl p) = noted offset p.1
        go (inr p) = is.wanted (suc k) offset p.1

-- the same for an equal state
pub put_is : (c s : CoordinatorState) (w n : ℕ) (j : Job) → c ≡ s → n ≡ w → IsJobAt s.leaves (w - 1) j → IsCoordinator c → IsCoordinator (with_job c n (Some j))
put_is c s w n j same number fair is =
    with_job_is c n (Some j) (λ i e. subst (IsJobAt c.leaves (n - 1)) (same_some j i e) (rw (number, same) fair)) is

pub taken_is : (c : CoordinatorState) (n : ℕ) (o : Option Job) → o ≡ None → IsCoordinator c → IsCoordinator (with_job c n o)
taken_is c n o none is = with_job_is c n o (λ i e. absurd (none_some i (sym none ∙ e))) is

pub note_is : (c s : CoordinatorState) (n offset : ℕ) → c ≡ s → 1 ≤ n → offset < length (bytes_in s.verdict) → IsCoordinator c → IsCoordinator (record c { wants = slice_set c.wants (n - 1) (Some offset) })
note_is c s n offset same from_1 within is =
    is_noted c n (Some offset) from_1 (λ o e. subst (λ (k : ℕ). k < length (bytes_in c.verdict)) (same_some offset o e) (rw same within)) is

pub unnoted_is : (c : CoordinatorState) (n : ℕ) → 1 ≤ n → IsCoordinator c → IsCoordinator (record c { wants = slice_set c.wants (n - 1) None })
unnoted_is c n from_1 is = is_noted c n None from_1 (λ o e. absurd (none_some o e)) is

-- the defined pairs are of the formula, and at most 64
pub pairs_inside : (c : CoordinatorState) → IsCoordinator c → All (IsPairOf c.formula.vars) c.definitions.pairs
pairs_inside c is = all_chosen c.formula c.definitions.wanted c.definitions.pairs is.grounds.defined.defined

pub pairs_few : (c : CoordinatorState) → IsCoordinator c → length c.definitions.pairs ≤ 64
pairs_few c is =
    let few = few_chosen c.formula c.definitions.wanted c.definitions.pairs is.grounds.defined.defined in omega (arith, few, is.grounds.defined.few)

-- the base is within the limit of every base
pub base_low : (c : CoordinatorState) → IsCoordinator c → (coordinator_base c).vars ≤ 199999999
base_low c is = let few = pairs_few c is in omega (arith, few, is.grounds.formula.vars)

-- the leaf of a job is a place of the table, and is not closed
pub leaf_within : (leaves : List LeafState) (slot : ℕ) (j : Job) → IsJobAt leaves slot j → j.leaf < length leaves
leaf_within leaves slot j is = got_within leaves j.leaf (GivenTo (slot + 1)) is.given

pub leaf_unclosed : (leaves : List LeafState) (slot : ℕ) (j : Job) → IsJobAt leaves slot j → get_or leaves j.leaf Closed ≢ Closed
leaf_unclosed leaves slot j is closed_there =
    let e : Some (get_or leaves j.leaf Closed) ≡ Some (GivenTo (slot + 1)) = sym (slice_get-get_or leaves j.leaf Closed (leaf_within leaves slot j is)) ∙ is.given in
    given_is_not_closed (slot + 1) (sym (same_some (get_or leaves j.leaf Closed) (GivenTo (slot + 1)) e) ∙ closed_there)

pub leaf_in_tree : (c : CoordinatorState) (slot : ℕ) (j : Job) → IsCoordinator c → IsJobAt c.leaves slot j → j.leaf < length c.tree
leaf_in_tree c slot j is fair = omega (arith, leaf_within c.leaves slot j fair, is.tables.each_leaf)

-- a worker whose job has this leaf
abbrev pub HasLeaf : CoordinatorState → ℕ → ℕ → Type 0
HasLeaf s w leaf = (j : Job) × (job_at s w ≡ Some j) × (j.leaf ≡ leaf)

pub lost_leaf : (c s : CoordinatorState) (w leaf : ℕ) → c ≡ s → IsCoordinator c → HasLeaf s w leaf → (leaf < length c.leaves) × (get_or c.leaves leaf Closed ≢ Closed)
lost_leaf c s w leaf same is has =
    let fair : IsJobAt c.leaves (w - 1) has.0 = job_is c w has.0 (subst (λ (d : CoordinatorState). job_at d w ≡ Some has.0) (sym same) has.1) is in
    let lt : has.0.leaf < length c.leaves = leaf_within c.leaves (w - 1) has.0 fair in
    let e : has.0.leaf ≡ leaf = has.2 in
    (omega (arith, lt, e), subst (λ (l : ℕ). get_or c.leaves l Closed ≢ Closed) e (leaf_unclosed c.leaves (w - 1) has.0 fair))

pub lost_is : (c s : CoordinatorState) (w n leaf : ℕ) (rows : LeafRows) → c ≡ s → n ≡ w → IsCoordinator c → HasLeaf s w leaf → rows ≡ record { states = slice_set c.leaves leaf Open; fragments = c.fragments }
    → IsCoordinator (record c { leaves = rows.states; fragments = rows.fragments; jobs = slice_set c.jobs (n - 1) None })
lost_is c s w n leaf rows same number is has now =
    let at : job_at c w ≡ Some has.0 = subst (λ (d : CoordinatorState). job_at d w ≡ Some has.0) (sym same) has.1 in
    let opened : IsCoordinator (reopened c w has.0) = is_reopened c w has.0 at is in
    let here : IsCoordinator (record c { leaves = slice_set c.leaves leaf Open; jobs = slice_set c.jobs (w - 1) None }) =
    subst (λ (l : ℕ). IsCoordinator (record c { leaves = slice_set c.leaves l Open; jobs = slice_set c.jobs (w - 1) None })) has.2 opened in
    subst (λ (r : LeafRows). IsCoordinator (record c { leaves = r.states; fragments = r.fragments; jobs = slice_set c.jobs (n - 1) None })) (sym now)
    (subst (λ (k : ℕ). IsCoordinator (record c { leaves = slice_set c.leaves leaf Open; jobs = slice_set c.jobs (k - 1) None })) (sym number) here)

pub task_leaf : (c s : CoordinatorState) (w leaf : ℕ) → c ≡ s → IsCoordinator c → HasLeaf s w leaf → leaf < length c.tree
task_leaf c s w leaf same is has = let lt = (lost_leaf c s w leaf same is has).0 in omega (arith, lt, is.tables.each_leaf)
