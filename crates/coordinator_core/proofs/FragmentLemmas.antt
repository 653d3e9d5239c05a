-- A complete fragment closes a leaf, over plain values.
use Rattle.std.proofs.Common.{◌≡◌, ℕ, zero, suc, ◌-◌, ◌<◌, ◌≤◌, ◌^◌, Bool, true, false, List, [], length, Option, Some, None, slice_set, get_or, refl, subst, sym, ap, ◌∙◌, inl, inr, arith}
use Rattle.std.proofs.lemmas.List.{length-set, get_or-set_same}
use Rattle.std.proofs.lemmas.Option.{slice_get-get_or}
use Rattle.lrat_text.specs.Log.{Closes}
use Rattle.lrat_text.specs.Proof.{Accepts}
use Rattle.lrat_check.specs.Verdicts.{Right}
use Rattle.lrat_check.specs.declared.verdict.Verdict.{Verdict}
use Rattle.lrat_check.specs.declared.verdict.Verdict.TheVariants.{Nothing, Proof}
use Rattle.lrat_check.specs.declared.verdict.Reaction.TheVariants as reaction
use Rattle.proof_join.specs.Definitions.{JoinedOver, preamble_steps}
use Rattle.proof_join.specs.JoinedProof.{AllClose}
use Rattle.proof_join.proofs.ShapeLemmas.{joined_some}
use Rattle.evidence.specs.Evidence.{bytes_in}
use Rattle.coordinator_core.specs.inner.PrivateCalls.{IsFixed, UnlessNoMemory}
use Rattle.coordinator_core.specs.Coordinator.{CoordinatorState, AreClosed, CompletesFragment, coordinator_base, cube_at, job_at, closed}
use Rattle.coordinator_core.specs.Invariant.{IsCoordinator, HasJoined, IsJobAt}
use Rattle.coordinator_core.specs.inner.LeafTable.{LeafRows}
use Rattle.coordinator_core.specs.declared.job_state.Fixed.{Fixed}
use Rattle.coordinator_core.specs.declared.job_state.Job.{Job}
use Rattle.coordinator_core.specs.declared.job_state.LeafState.{LeafState}
use Rattle.coordinator_core.specs.declared.job_state.LeafState.TheVariants.{Open, GivenTo, Closed}
use Rattle.coordinator_core.proofs.InvariantLemmas.{at_desk, base_low, job_is, closed_all, is_closed, leaf_within}
use Rattle.coordinator_core.proofs.Places.{any_default, read_within, set_back}

-- what `close` requires
abbrev pub ClosesIff : CoordinatorState → ℕ → Type 0
ClosesIff s w = (j : Job) × (x : Fixed) × IsFixed s w j x × Closes (coordinator_base s) (cube_at s j.leaf) x.evidence.bytes

same_some : {X : Type 0} (a b : X) → Some a ≡ Some b → a ≡ b
same_some a b e = cc

-- the job that was taken is the worker's
pub record IsTaken (c s : CoordinatorState) (w n : ℕ) (job : Job) : Type 0 where
  pub same : c ≡ s
  pub number : n ≡ w
  pub is : IsCoordinator c
  pub at : job_at s w ≡ Some job
  pub may : ClosesIff s w

-- the same from what the code knows
pub taken_at : (c s : CoordinatorState) (w n : ℕ) (job : Job) (o p : Option Job) → c ≡ s → n ≡ w → IsCoordinator c → ClosesIff s w → o ≡ get_or c.jobs (n - 1) o → p ≡ o → p ≡ Some job → IsTaken c s w n job
taken_at c s w n job o p same number is may here taken some = record {
  same = same;
  number = number;
  is = is;
  at = let job_there : job_at s w ≡ Some may.0 = may.2.job in
      let there : get_or s.jobs (w - 1) None ≡ Some may.0 = at_desk s w may.0 job_there in
      let inside : w - 1 < length s.jobs = read_within s.jobs (w - 1) may.0 there in
      let read : get_or s.jobs (w - 1) o ≡ Some may.0 = any_default s.jobs (w - 1) o None inside ∙ there in
      let seen : o ≡ get_or s.jobs (w - 1) o = here ∙ ap (λ (d : CoordinatorState). get_or d.jobs (n - 1) o) same ∙ ap (λ (k : ℕ). get_or s.jobs (k - 1) o) number in
      job_there ∙ sym read ∙ sym seen ∙ sym taken ∙ some;
  may = may;
}

pub desk_is : (c s : CoordinatorState) (w n : ℕ) → c ≡ s → n ≡ w → ClosesIff s w → n - 1 < length c.jobs
desk_is c s w n same number may =
    let inside : w - 1 < length s.jobs = read_within s.jobs (w - 1) may.0 (at_desk s w may.0 may.2.job) in
    rw (number, same) inside

pub job_fair : (c s : CoordinatorState) (w n : ℕ) (job : Job) → IsTaken c s w n job → IsJobAt c.leaves (w - 1) job
job_fair c s w n job t = job_is c w job (rw t.same t.at) t.is

-- the leaf that was closed with these bytes
pub record IsShut (c s : CoordinatorState) (w n : ℕ) (job : Job) (text : List ℕ) (rows : LeafRows) (o : Option Job) : Type 0 where
  pub taken : IsTaken c s w n job
  pub text_is : (x : Fixed) → job.fixed ≡ Some x → text ≡ x.evidence.bytes
  pub rows_are : rows ≡ record { states = slice_set c.leaves job.leaf Closed; fragments = slice_set c.fragments job.leaf text }
  pub none : o ≡ None

-- the state then
abbrev pub shut : CoordinatorState → ℕ → LeafRows → Option Job → Verdict → Bool → CoordinatorState
shut c n rows o v stuck = record c { leaves = rows.states; fragments = rows.fragments; jobs = slice_set c.jobs (n - 1) o; verdict = v; stuck = stuck }

pub shut_is : (c s : CoordinatorState) (w n : ℕ) (job : Job) (text : List ℕ) (rows : LeafRows) (o : Option Job) (v : Verdict) (stuck : Bool) → IsShut c s w n job text rows o
    → shut c n rows o v stuck ≡ record (closed s w job text) { verdict = v; stuck = stuck }
shut_is c s w n job text rows o v stuck h =
    ap (λ (r : LeafRows). shut c n r o v stuck) h.rows_are
    ∙ ap (λ (p : Option Job). record c { leaves = slice_set c.leaves job.leaf Closed; fragments = slice_set c.fragments job.leaf text; jobs = slice_set c.jobs (n - 1) p; verdict = v; stuck = stuck }) h.none
    ∙ ap (λ (k : ℕ). record c { leaves = slice_set c.leaves job.leaf Closed; fragments = slice_set c.fragments job.leaf text; jobs = slice_set c.jobs (k - 1) None; verdict = v; stuck = stuck }) h.taken.number
    ∙ ap (λ (d : CoordinatorState). record (closed d w job text) { verdict = v; stuck = stuck }) h.taken.same

-- the text closes the leaf of the job
pub text_closes : (c s : CoordinatorState) (w n : ℕ) (job : Job) (text : List ℕ) (rows : LeafRows) (o : Option Job) → IsShut c s w n job text rows o
    → Closes (coordinator_base s) (cube_at s job.leaf) text
text_closes c s w n job text rows o h =
    let may = h.taken.may in
    let same : may.0 ≡ job = same_some may.0 job (sym may.2.job ∙ h.taken.at) in
    let fixed : job.fixed ≡ Some may.1 = ap (λ (j : Job). j.fixed) (sym same) ∙ may.2.fixed in
    subst (λ (j : Job). Closes (coordinator_base s) (cube_at s j.leaf) text) same
    (subst (λ (t : List ℕ). Closes (coordinator_base s) (cube_at s may.0.leaf) t) (sym (h.text_is may.1 fixed)) may.3)

pub state_is : (c s : CoordinatorState) (w n : ℕ) (job : Job) → IsTaken c s w n job → IsCoordinator s
state_is c s w n job t = subst IsCoordinator t.same t.is

pub rows_closed : (c s : CoordinatorState) (w n : ℕ) (job : Job) (text : List ℕ) (rows : LeafRows) (o : Option Job) → IsShut c s w n job text rows o → rows.states ≡ (closed s w job text).leaves
rows_closed c s w n job text rows o h = ap (λ (r : LeafRows). r.states) h.rows_are ∙ ap (λ (d : CoordinatorState). slice_set d.leaves job.leaf Closed) h.taken.same

pub rows_texts : (c s : CoordinatorState) (w n : ℕ) (job : Job) (text : List ℕ) (rows : LeafRows) (o : Option Job) → IsShut c s w n job text rows o → rows.fragments ≡ (closed s w job text).fragments
rows_texts c s w n job text rows o h = ap (λ (r : LeafRows). r.fragments) h.rows_are ∙ ap (λ (d : CoordinatorState). slice_set d.fragments job.leaf text) h.taken.same

-- the leaf is closed, whatever verdict is held then
kept : (c s : CoordinatorState) (w n : ℕ) (job : Job) (text : List ℕ) (rows : LeafRows) (o : Option Job) (v : Verdict) (stuck : Bool) → IsShut c s w n job text rows o
    → Right s.formula v → length (bytes_in v) < 2 ^ 32 → (stuck ≡ true → v ≡ Nothing)
    → (AreClosed (closed s w job text).leaves → HasJoined (record (closed s w job text) { verdict = v; stuck = stuck })) → IsCoordinator (shut c n rows o v stuck)
kept c s w n job text rows o v stuck h right short alone ended =
    subst IsCoordinator (sym (shut_is c s w n job text rows o v stuck h))
    (is_closed s w job text v stuck h.taken.at (state_is c s w n job h.taken) h.taken.may.2.deciding.undecided (text_closes c s w n job text rows o h) right short alone ended)

-- another leaf is not closed
pub goes_on : (c s : CoordinatorState) (w n : ℕ) (job : Job) (text : List ℕ) (rows : LeafRows) (o : Option Job) → IsShut c s w n job text rows o
    → (AreClosed rows.states → ⊥) → IsCoordinator (shut c n rows o c.verdict c.stuck)
goes_on c s w n job text rows o h some =
    let is = h.taken.is in
    kept c s w n job text rows o c.verdict c.stuck h (rw (← h.taken.same) is.right) is.short is.stuck (λ all. absurd (some (rw (rows_closed c s w n job text rows o h) all)))

pub all_there : (c s : CoordinatorState) (w n : ℕ) (job : Job) (text : List ℕ) (rows : LeafRows) (o : Option Job) (texts : List (List ℕ)) → IsShut c s w n job text rows o
    → AreClosed rows.states → texts ≡ rows.fragments → AllClose (coordinator_base c) c.tree texts
all_there c s w n job text rows o texts h all are =
    let e : texts ≡ (closed s w job text).fragments = are ∙ rows_texts c s w n job text rows o h in
    rw (e, h.taken.same) (closed_all s w job text (state_is c s w n job h.taken) (text_closes c s w n job text rows o h) (rw (← rows_closed c s w n job text rows o h) all))

-- the fragments are joined
pub joined_is : (c s : CoordinatorState) (w n : ℕ) (job : Job) (text : List ℕ) (rows : LeafRows) (o : Option Job) (texts : List (List ℕ)) (proof : List ℕ) (v : Verdict) → IsShut c s w n job text rows o
    → texts ≡ rows.fragments → v ≡ Proof proof → JoinedOver c.formula c.definitions.pairs c.tree texts proof → length proof < 2 ^ 32 → Accepts c.formula proof → IsCoordinator (shut c n rows o v c.stuck)
joined_is c s w n job text rows o texts proof v h are v_is joined short accepted =
    let e : texts ≡ (closed s w job text).fragments = are ∙ rows_texts c s w n job text rows o h in
    subst (λ (u : Verdict). IsCoordinator (shut c n rows o u c.stuck)) (sym v_is)
    (kept c s w n job text rows o (Proof proof) c.stuck h (subst (λ (d : CoordinatorState). Accepts d.formula proof) h.taken.same accepted) short
    (λ on. absurd (going on)) (λ _. record { text = proof; joined = rw (← e, ← h.taken.same) joined; end = inl refl }))
  where
    going : c.stuck ≡ true → ⊥
    going on = let e : false ≡ true = sym h.taken.may.2.deciding.going ∙ ap (λ (d : CoordinatorState). d.stuck) (sym h.taken.same) ∙ on in cc

-- they are too long
pub too_long_is : (c s : CoordinatorState) (w n : ℕ) (job : Job) (text : List ℕ) (rows : LeafRows) (o : Option Job) (texts : List (List ℕ)) (proof : List ℕ) → IsShut c s w n job text rows o
    → texts ≡ rows.fragments → JoinedOver c.formula c.definitions.pairs c.tree texts proof → 2 ^ 32 ≤ length proof → IsCoordinator (shut c n rows o c.verdict true)
too_long_is c s w n job text rows o texts proof h are joined long =
    let e : texts ≡ (closed s w job text).fragments = are ∙ rows_texts c s w n job text rows o h in
    let is = h.taken.is in
    kept c s w n job text rows o c.verdict true h (rw (← h.taken.same) is.right) is.short
    (λ _. ap (λ (d : CoordinatorState). d.verdict) h.taken.same ∙ h.taken.may.2.deciding.undecided)
    (λ _. record { text = proof; joined = rw (← e, ← h.taken.same) joined; end = inr (refl, long) })

-- the same for any equal job and evidence
for_any : (P : Job → List ℕ → Type 0) (c s : CoordinatorState) (w n : ℕ) (job : Job) (text : List ℕ) (rows : LeafRows) (o : Option Job) → IsShut c s w n job text rows o
    → P job text → (j : Job) (x : Fixed) → IsFixed s w j x → P j x.evidence.bytes
for_any P c s w n job text rows o h p j x is =
    let same : job ≡ j = same_some job j (sym h.taken.at ∙ is.job) in
    let bytes : text ≡ x.evidence.bytes = h.text_is x (ap (λ (i : Job). i.fixed) same ∙ is.fixed) in
    subst (λ (i : Job). P i x.evidence.bytes) same (subst (P job) bytes p)

-- the new state, if neither verdict nor `stuck` changed
plain_is : (c s : CoordinatorState) (w n : ℕ) (job : Job) (text : List ℕ) (rows : LeafRows) (o : Option Job) → IsShut c s w n job text rows o → shut c n rows o c.verdict c.stuck ≡ closed s w job text
plain_is c s w n job text rows o h =
    shut_is c s w n job text rows o c.verdict c.stuck h ∙ ap (λ (d : CoordinatorState). record (closed s w job text) { verdict = d.verdict; stuck = d.stuck }) h.taken.same

pub ends_closed : (c s : CoordinatorState) (w n : ℕ) (job : Job) (text : List ℕ) (rows : LeafRows) (o : Option Job) → IsShut c s w n job text rows o → (AreClosed rows.states → ⊥)
    → (j : Job) (x : Fixed) → IsFixed s w j x
    → UnlessNoMemory s reaction.Taken (shut c n rows o c.verdict c.stuck) (CompletesFragment s w j x.evidence.bytes reaction.Taken (shut c n rows o c.verdict c.stuck))
ends_closed c s w n job text rows o h some =
    for_any (λ (j : Job) (t : List ℕ). UnlessNoMemory s reaction.Taken (shut c n rows o c.verdict c.stuck) (CompletesFragment s w j t reaction.Taken (shut c n rows o c.verdict c.stuck))) c s w n job text rows o h
    (inr (CompletesFragment.closes (text_closes c s w n job text rows o h) (λ all. some (rw (rows_closed c s w n job text rows o h) all)) refl (plain_is c s w n job text rows o h)))

pub ends_joined : (c s : CoordinatorState) (w n : ℕ) (job : Job) (text : List ℕ) (rows : LeafRows) (o : Option Job) (texts : List (List ℕ)) (proof : List ℕ) (v : Verdict) → IsShut c s w n job text rows o
    → AreClosed rows.states → texts ≡ rows.fragments → v ≡ Proof proof → JoinedOver c.formula c.definitions.pairs c.tree texts proof → length proof < 2 ^ 32
    → (j : Job) (x : Fixed) → IsFixed s w j x
    → UnlessNoMemory s reaction.Verdict (shut c n rows o v c.stuck) (CompletesFragment s w j x.evidence.bytes reaction.Verdict (shut c n rows o v c.stuck))
ends_joined c s w n job text rows o texts proof v h all are v_is joined short =
    let e : texts ≡ (closed s w job text).fragments = are ∙ rows_texts c s w n job text rows o h in
    let now : shut c n rows o v c.stuck ≡ record (closed s w job text) { verdict = Proof proof } =
    shut_is c s w n job text rows o v c.stuck h ∙ ap (λ (d : CoordinatorState). record (closed s w job text) { verdict = v; stuck = d.stuck }) h.taken.same ∙ ap (λ (u : Verdict). record (closed s w job text) { verdict = u }) v_is in
    for_any (λ (j : Job) (t : List ℕ). UnlessNoMemory s reaction.Verdict (shut c n rows o v c.stuck) (CompletesFragment s w j t reaction.Verdict (shut c n rows o v c.stuck))) c s w n job text rows o h
    (inr (CompletesFragment.joins (text_closes c s w n job text rows o h) (rw (← rows_closed c s w n job text rows o h) all) proof (rw (← e, ← h.taken.same) joined) short refl now))

pub ends_too_long : (c s : CoordinatorState) (w n : ℕ) (job : Job) (text : List ℕ) (rows : LeafRows) (o : Option Job) (texts : List (List ℕ)) (proof : List ℕ) → IsShut c s w n job text rows o
    → AreClosed rows.states → texts ≡ rows.fragments → JoinedOver c.formula c.definitions.pairs c.tree texts proof → 2 ^ 32 ≤ length proof
    → (j : Job) (x : Fixed) → IsFixed s w j x
    → UnlessNoMemory s reaction.Taken (shut c n rows o c.verdict true) (CompletesFragment s w j x.evidence.bytes reaction.Taken (shut c n rows o c.verdict true))
ends_too_long c s w n job text rows o texts proof h all are joined long =
    let e : texts ≡ (closed s w job text).fragments = are ∙ rows_texts c s w n job text rows o h in
    let now : shut c n rows o c.verdict true ≡ record (closed s w job text) { stuck = true } =
    shut_is c s w n job text rows o c.verdict true h ∙ ap (λ (d : CoordinatorState). record (closed s w job text) { verdict = d.verdict; stuck = true }) h.taken.same in
    for_any (λ (j : Job) (t : List ℕ). UnlessNoMemory s reaction.Taken (shut c n rows o c.verdict true) (CompletesFragment s w j t reaction.Taken (shut c n rows o c.verdict true))) c s w n job text rows o h
    (inr (CompletesFragment.too_long (text_closes c s w n job text rows o h) (rw (← rows_closed c s w n job text rows o h) all) proof (rw (← e, ← h.taken.same) joined) long refl now))

-- there is a joined text
pub some_joined : (c s : CoordinatorState) (w n : ℕ) (job : Job) (text : List ℕ) (rows : LeafRows) (o : Option Job) (texts : List (List ℕ)) → IsShut c s w n job text rows o
    → AreClosed rows.states → texts ≡ rows.fragments → (proof : List ℕ) × JoinedOver c.formula c.definitions.pairs c.tree texts proof
some_joined c s w n job text rows o texts h all are =
    joined_some c.formula (coordinator_base c) (preamble_steps c.formula c.definitions.pairs) c.tree texts (base_low c h.taken.is) h.taken.is.grounds.tree_is.is_tree.leaves (all_there c s w n job text rows o texts h all are)

-- the closed leaf is given to the worker again
pub given_back : (c s : CoordinatorState) (w n : ℕ) (job back : Job) (text before : List ℕ) (rows again : LeafRows) (o : Option Job) → IsShut c s w n job text rows o
    → before ≡ get_or c.fragments job.leaf [] → again ≡ record { states = slice_set rows.states job.leaf (GivenTo w); fragments = slice_set rows.fragments job.leaf before } → back ≡ job
    → record c { leaves = again.states; fragments = again.fragments; jobs = slice_set (slice_set c.jobs (n - 1) o) (n - 1) (Some back) } ≡ c
given_back c s w n job back text before rows again o h was now is =
    let t = h.taken in
    let fair : IsJobAt c.leaves (w - 1) job = job_fair c s w n job t in
    let from_1 : 1 ≤ w = above w t.at in
    let leaf : get_or c.leaves job.leaf Open ≡ GivenTo w =
    same_some (get_or c.leaves job.leaf Open) (GivenTo w) (sym (slice_get-get_or c.leaves job.leaf Open (leaf_within c.leaves (w - 1) job fair)) ∙ fair.given ∙ ap (λ (k : ℕ). Some (GivenTo k)) (omega (arith, from_1))) in
    let slot : get_or c.jobs (n - 1) None ≡ Some back = rw (t.same, t.number, is) (at_desk s w job t.at) in
    let leaves : again.states ≡ c.leaves =
    ap (λ (r : LeafRows). r.states) now ∙ ap (λ (r : LeafRows). slice_set r.states job.leaf (GivenTo w)) h.rows_are ∙ set_back c.leaves job.leaf Closed (GivenTo w) Open leaf in
    let fragments : again.fragments ≡ c.fragments =
    ap (λ (r : LeafRows). r.fragments) now ∙ ap (λ (r : LeafRows). slice_set r.fragments job.leaf before) h.rows_are ∙ set_back c.fragments job.leaf text before [] (sym was) in
    let jobs : slice_set (slice_set c.jobs (n - 1) o) (n - 1) (Some back) ≡ c.jobs = set_back c.jobs (n - 1) o (Some back) None slot in
    ap (λ (l : List LeafState). record c { leaves = l; fragments = again.fragments; jobs = slice_set (slice_set c.jobs (n - 1) o) (n - 1) (Some back) }) leaves
    ∙ ap (λ (f : List (List ℕ)). record c { fragments = f; jobs = slice_set (slice_set c.jobs (n - 1) o) (n - 1) (Some back) }) fragments
    ∙ ap (λ (l : List (Option Job)). record c { jobs = l }) jobs
  where
    above : (k : ℕ) → job_at s k ≡ Some job → 1 ≤ k
    above zero at = cc
    above (suc k) at = omega arith

-- and the state is unchanged
pub refused : (c s new : CoordinatorState) (w : ℕ) → c ≡ s → new ≡ c → (j : Job) (x : Fixed) → IsFixed s w j x
    → UnlessNoMemory s reaction.NoMemory new (CompletesFragment s w j x.evidence.bytes reaction.NoMemory new)
refused c s new w same back j x is = inl (refl, back ∙ same)

-- the text that was put into an entry, and is taken out of it
pub text_back : (c s : CoordinatorState) (w n : ℕ) (job : Job) (text : List ℕ) (rows : LeafRows) (o : Option Job) → IsShut c s w n job text rows o → get_or rows.fragments job.leaf [] ≡ text
text_back c s w n job text rows o h =
    let fair : IsJobAt c.leaves (w - 1) job = job_fair c s w n job h.taken in
    let inside : job.leaf < length c.fragments = omega (arith, leaf_within c.leaves (w - 1) job fair, h.taken.is.tables.each_leaf, h.taken.is.tables.each_fragment) in
    ap (λ (r : LeafRows). get_or r.fragments job.leaf []) h.rows_are ∙ get_or-set_same c.fragments job.leaf text [] inside

pub leaf_back : (c s : CoordinatorState) (w n : ℕ) (job : Job) (text : List ℕ) (rows : LeafRows) (o : Option Job) → IsShut c s w n job text rows o → (job.leaf < length rows.states) × (get_or rows.states job.leaf Open ≡ Closed)
leaf_back c s w n job text rows o h =
    let fair : IsJobAt c.leaves (w - 1) job = job_fair c s w n job h.taken in
    let inside : job.leaf < length c.leaves = leaf_within c.leaves (w - 1) job fair in
    let long : length rows.states ≡ length c.leaves = ap (λ (r : LeafRows). length r.states) h.rows_are ∙ length-set c.leaves job.leaf Closed in
    (omega (arith, inside, long), ap (λ (r : LeafRows). get_or r.states job.leaf Open) h.rows_are ∙ get_or-set_same c.leaves job.leaf Closed Open inside)
