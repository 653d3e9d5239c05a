-- What a poll needs, over plain values.
use Rattle.std.proofs.Common.{◌≡◌, ◌≢◌, ℕ, suc, ◌+◌, ◌-◌, ◌<◌, ◌≤◌, ◌^◌, List, [], ◌∷◌, ◌++◌, zero, length, Option, Some, None, get_or, ◌⊎◌, inl, inr, refl, subst, sym, ap, ◌∙◌, arith}
use Rattle.std.specs.Prelude.{nat_eq, map, drop, take, min, Bool, position, slice_get, slice_set, SomeIff}
use Rattle.std.proofs.lemmas.List.Quantifiers.{position-Some}
use Rattle.std.proofs.lemmas.Option.{slice_get-get_or}
use Rattle.std.specs.List.{IsDistinct}
use Rattle.std.proofs.lemmas.List.{length-append, take_min, take-map, drop-map}
use Rattle.std.proofs.lemmas.Bool.{cases_lt}
use Rattle.dimacs.specs.logic.ClauseMap.{map_of}
use Rattle.dimacs.specs.logic.Cnf.{Cnf}
use Rattle.lrat_text.specs.Grammar.{LineSpellsWithin}
use Rattle.lrat_text.specs.Proof.{proof_top, Accepts, Refutation}
use Rattle.lrat_text.specs.declared.step.Step.{Step}
use Rattle.lrat_check.specs.Judgement.{value_byte}
use Rattle.lrat_check.specs.Verdicts.{Right}
use Rattle.lrat_check.specs.declared.verdict.Verdict.{Verdict}
use Rattle.lrat_check.specs.declared.verdict.Verdict.TheVariants.{Nothing, Model, Proof}
use Rattle.frames.specs.declared.answer.Answer.TheVariants as answers
use Rattle.evidence.specs.Evidence.{answer_in, bytes_in}
use Rattle.dimacs.specs.logic.Literal.{var_of}
use Rattle.icnf.specs.Leaves.{Cube}
use Rattle.icnf.proofs.DistinctLemmas.{leaves_distinct}
use Rattle.frames.specs.Cubes.{IsCube}
use Rattle.frames.specs.Answers.{length_of}
use Rattle.coordinator_core.specs.Coordinator.{CoordinatorState, job_at, is_open, gives}
use Rattle.coordinator_core.specs.NextJob.{next_of}
use Rattle.coordinator_core.specs.inner.LeafTable.{LeafRows}
use Rattle.coordinator_core.specs.declared.job_state.LeafState.{LeafState}
use Rattle.coordinator_core.specs.declared.job_state.LeafState.TheVariants.{Open, GivenTo, Closed}
use Rattle.coordinator_core.specs.Invariant.{IsCoordinator}
use Rattle.coordinator_core.specs.declared.job_state.Fixed.{Fixed}
use Rattle.coordinator_core.specs.declared.job_state.Job.{Job}
use Rattle.coordinator_core.proofs.Places.{any_default}
use Rattle.coordinator_core.proofs.TableLemmas.{open_leaf}
use Rattle.coordinator_core.proofs.InvariantLemmas.{HasLeaf, task_leaf, job_is, is_given}

pub leaf_there : (c s : CoordinatorState) (w leaf : ℕ) → c ≡ s → IsCoordinator c → HasLeaf s w leaf → leaf < length s.tree
leaf_there c s w leaf same is has = subst (λ (d : CoordinatorState). leaf < length d.tree) same (task_leaf c s w leaf same is has)

none_twice : IsDistinct nat_eq (map var_of [])
unfolding IsDistinct
none_twice = tt

-- the cube of a leaf is one that a task may have
pub cube_is : (c s : CoordinatorState) (leaf : ℕ) (q : Cube) → c ≡ s → IsCoordinator c → leaf < length s.tree → q ≡ get_or c.tree leaf [] → IsCube q
cube_is c s leaf q same is inside here =
    let t = is.grounds.tree_is in
    let lt : leaf < length c.tree = subst (λ (d : CoordinatorState). leaf < length d.tree) (sym same) inside in
    subst IsCube (sym here) (record {
      short = t.is_tree.short leaf [] lt;
      within = t.narrow leaf [] lt;
      distinct = leaves_distinct none_twice t.is_tree.leaves leaf [] lt;
    })

-- at most as many bytes were received as were announced
pub few_bytes : (c s : CoordinatorState) (w : ℕ) (j : Job) (x : Fixed) → c ≡ s → IsCoordinator c → job_at s w ≡ Some j → j.fixed ≡ Some x → length x.evidence.bytes ≤ length_of x.evidence.finding
few_bytes c s w j x same is at fixed = (job_is c w j (subst (λ (d : CoordinatorState). job_at d w ≡ Some j) (sym same) at) is).fits x fixed

-- a text that spells a step has at least one byte
some_byte : (most : ℕ) (text : List ℕ) (step : Step) (steps : List Step) → LineSpellsWithin most text (step ∷ steps) → 1 ≤ length text
some_byte most text step steps spells =
    let line : List ℕ = spells.0 in
    let rest : List ℕ = spells.1 in
    let is : length text ≡ length (line ++ 10 ∷ rest) = ap length spells.2 in
    omega (arith, is, length-append line (10 ∷ rest))

accepts_some : (F : Cnf) (text : List ℕ) → Accepts F text → 1 ≤ length text
accepts_some F text accepts = go accepts.0 accepts.1 accepts.2
  where
    go : (steps : List Step) → LineSpellsWithin (proof_top F) text steps → Refutation (map_of F) (length F.clauses) steps → 1 ≤ length text
    go [] spells refutation = absurd refutation
    go (step ∷ steps) spells refutation = some_byte (proof_top F) text step steps spells

-- a proof that is held has at least one byte
pub some_bytes : (F : Cnf) (v : Verdict) → v ≢ Nothing → Right F v → answer_in v ≡ answers.Refuted → 1 ≤ length (bytes_in v)
some_bytes F Nothing some right refuted = absurd (some refl)
some_bytes F (Model values) some right refuted = cc
some_bytes F (Proof text) some right refuted = accepts_some F text right

pub held_bytes : (c s : CoordinatorState) → c ≡ s → IsCoordinator c → s.verdict ≢ Nothing → answer_in c.verdict ≡ answers.Refuted → 1 ≤ length (bytes_in c.verdict)
held_bytes c s same is some = some_bytes c.formula c.verdict (subst (λ (d : CoordinatorState). d.verdict ≢ Nothing) (sym same) some) is.right

-- the noted offset of a worker is below the number of bytes
pub wanted_here : (c s : CoordinatorState) (w n offset : ℕ) (o : Option ℕ) → c ≡ s → n ≡ w → 1 ≤ n → w ≤ length s.jobs → IsCoordinator c → o ≡ get_or c.wants (n - 1) o → o ≡ Some offset → offset < length (bytes_in c.verdict)
wanted_here c s w zero offset o same number from_1 known is here some = absurd (omega (arith, from_1))
wanted_here c s w (suc k) offset o same number from_1 known is here some =
    let slot : suc k - 1 ≡ k = omega arith in
    let jobs : length c.jobs ≡ length s.jobs = ap (λ (d : CoordinatorState). length d.jobs) same in
    let inside : k < length c.wants = omega (arith, jobs, known, number, is.tables.each_want) in
    let read : o ≡ get_or c.wants k o = here ∙ ap (λ (i : ℕ). get_or c.wants i o) slot in
    is.wanted (suc k) offset (any_default c.wants k None o inside ∙ sym read ∙ some)

-- at most 4,000 items of a rest
pub part_is : {X : Type 0} (xs rest part : List X) (offset n : ℕ) → part ≡ take n rest → n ≡ min 4000 (length rest) → rest ≡ drop offset xs → part ≡ take 4000 (drop offset xs)
part_is xs rest part offset n front count back =
    front ∙ ap (λ (k : ℕ). take k rest) count ∙ take_min 4000 rest ∙ ap (take 4000) back

-- the bytes of a part of the values
pub model_part : (v : Verdict) (values part : List Bool) (offset : ℕ) (out : List ℕ) → v ≡ Model values → out ≡ map value_byte part → part ≡ take 4000 (drop offset values) → out ≡ take 4000 (drop offset (bytes_in v))
model_part v values part offset out is bytes front =
    let there : take 4000 (drop offset (bytes_in v)) ≡ take 4000 (drop offset (map value_byte values)) = ap (λ (u : Verdict). take 4000 (drop offset (bytes_in u))) is in
    bytes ∙ ap (map value_byte) front ∙ sym (take-map value_byte 4000 (drop offset values)) ∙ ap (take 4000) (sym (drop-map value_byte offset values)) ∙ sym there

-- the leftmost open leaf is given with the next number
pub given_is : (c : CoordinatorState) (w n leaf number next : ℕ) (rows : LeafRows) → 1 ≤ n → n ≡ w → IsCoordinator c → c.next ≡ number → number < 2 ^ 64 → position is_open c.leaves ≡ Some leaf
    → rows ≡ record { states = slice_set c.leaves leaf (GivenTo w); fragments = c.fragments } → next ≡ number + 1
    → IsCoordinator (record c { leaves = rows.states; fragments = rows.fragments; jobs = slice_set c.jobs (n - 1) (Some (record { number = number; leaf = leaf; fixed = None })); next = next })
given_is c w n leaf number next rows from_1 same is next_is left at now more =
    let p = position-Some is_open c.leaves leaf Closed at in
    let inside : leaf < length c.leaves = p.0 in
    let free : slice_get c.leaves leaf ≡ Some Open = slice_get-get_or c.leaves leaf Closed inside ∙ ap (λ (l : LeafState). Some l) (open_leaf (get_or c.leaves leaf Closed) p.1) in
    let given : IsCoordinator (gives c n leaf) = is_given c n leaf from_1 (omega (arith, next_is, left)) free inside is in
    let rows_now : rows ≡ record { states = slice_set c.leaves leaf (GivenTo n); fragments = c.fragments } =
    now ∙ ap (λ (k : ℕ). record { states = slice_set c.leaves leaf (GivenTo k); fragments = c.fragments }) (sym same) in
    let next_now : next ≡ c.next + 1 = omega (arith, more, next_is) in
    subst (λ (r : LeafRows). IsCoordinator (record c { leaves = r.states; fragments = r.fragments; jobs = slice_set c.jobs (n - 1) (Some (record { number = number; leaf = leaf; fixed = None })); next = next })) (sym rows_now)
    (subst (λ (k : ℕ). IsCoordinator (record c { leaves = slice_set c.leaves leaf (GivenTo n); jobs = slice_set c.jobs (n - 1) (Some (record { number = number; leaf = leaf; fixed = None })); next = k })) (sym next_now)
    (subst (λ (k : ℕ). IsCoordinator (record c { leaves = slice_set c.leaves leaf (GivenTo n); jobs = slice_set c.jobs (n - 1) (Some (record { number = k; leaf = leaf; fixed = None })); next = c.next + 1 })) next_is given))

pub next_after : (o : Option ℕ) (number : ℕ) → number < 2 ^ 64 → SomeIff o (number + 1 < 2 ^ 64) (number + 1) → next_of o ≡ number + 1
next_after None number left h = full (cases_lt (number + 1) (2 ^ 64))
  where
    full : (number + 1 < 2 ^ 64) ⊎ (2 ^ 64 ≤ number + 1) → next_of None ≡ number + 1
    full (inl more) = absurd (h more)
    full (inr past) = omega (arith, left, past)
next_after (Some k) number left h = h.1
