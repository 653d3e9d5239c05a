-- A leaf is split: the invariant of the coordinator, over plain values.
use Rattle.std.proofs.Common.{◌≡◌, ◌≢◌, ℕ, suc, ◌+◌, ◌-◌, ◌<◌, ◌≤◌, true, List, [], ◌∷◌, length, map, Option, Some, None, slice_get, slice_set, get_or, refl, subst, sym, ap, ◌∙◌, ◌⊎◌, inl, inr, arith}
use Rattle.std.specs.List.{All}
use Rattle.std.proofs.lemmas.List.{length-append, length-map, length-set}
use Rattle.std.proofs.lemmas.List.Elements.{All-push}
use Rattle.std.proofs.lemmas.Option.{get_or_from_slice_get}
use Rattle.dimacs.specs.logic.Literal.{Pos, Neg, IsWithin}
use Rattle.icnf.specs.Leaves.{Cube, IsFree, branched}
use Rattle.icnf.proofs.LeavesLemmas.{leaves_branched}
use Rattle.lrat_text.specs.Log.{Closes}
use Rattle.lrat_check.specs.declared.verdict.Reaction.TheVariants as reaction
use Rattle.cube_split.specs.ChoiceWithDefinitions.{Chooses}
use Rattle.cube_split.proofs.ChosenLemmas.{chosen_free, chosen_within}
use Rattle.cube_split.proofs.OnceLemmas.{one_choice}
use Rattle.evidence.specs.Jobs.{IsOverBase}
use Rattle.coordinator_core.specs.Splits.{doubled, shifted, shifted_job}
use Rattle.coordinator_core.specs.Coordinator.{CoordinatorState, CanSplit, MaySplit, DeliversLimit, coordinator_base, coordinator_opening, cube_at, job_at, split}
use Rattle.coordinator_core.specs.Invariant.{IsCoordinator, IsTreeOf, IsJobAt}
use Rattle.coordinator_core.specs.inner.LeafTable.{LeafRows}
use Rattle.coordinator_core.specs.declared.job_state.Job.{Job}
use Rattle.coordinator_core.specs.declared.job_state.LeafState.{LeafState}
use Rattle.coordinator_core.specs.declared.job_state.LeafState.TheVariants.{Open, GivenTo, Closed}
use Rattle.coordinator_core.proofs.InvariantLemmas.{HasLeaf, dropped_jobs, job_is, leaf_within}
use Rattle.coordinator_core.proofs.Places.{got_within, got_set_same, read_set_cases}
use Rattle.coordinator_core.proofs.SplitLemmas.{IsUnshifted, all_branched, branched_length, branched_read, doubled_at, doubled_length, doubled_read, doubled_same, doubled_set, job_before, shift_at, unshifted}

same_some : {X : Type 0} (a b : X) → Some a ≡ Some b → a ≡ b
same_some a b e = cc

none_some : {X : Type 0} (a : X) → None ≡ Some a → ⊥
none_some a e = cc

open_is_not_closed : Open ≢ Closed
open_is_not_closed e = cc

-- after a split the tree is over the base's variables
split_tree : (c : CoordinatorState) (leaf v : ℕ) → IsCoordinator c → leaf < length c.tree → CanSplit c leaf v → IsTreeOf (coordinator_base c) (branched leaf v c.tree)
split_tree c leaf v is inside can =
    let t = is.grounds.tree_is in
    let within = chosen_within c.formula (coordinator_opening c) (cube_at c leaf) v is.grounds.formula.within can.choice in
    let short = can.may.short in
    let free : IsFree (cube_at c leaf) v = chosen_free c.formula (coordinator_opening c) (cube_at c leaf) v can.choice in
    let cube_inside : IsOverBase (coordinator_base c) (cube_at c leaf) = t.inside leaf [] inside in
    let cube_narrow : All (IsWithin 2000000) (cube_at c leaf) = t.narrow leaf [] inside in
    let narrow : (1 ≤ v) × (v ≤ 2000000) = (within.0, omega (arith, within.1, can.may.narrow)) in
    let few = can.may.few in
    record {
      is_tree = record {
        leaves = leaves_branched t.is_tree.leaves leaf v inside free;
        count = omega (arith, few, branched_length c.tree leaf v inside);
        short = all_branched (λ (q : Cube). length q ≤ 64) c.tree leaf v
            (omega (arith, short, length-append (cube_at c leaf) (Pos v ∷ []))) (omega (arith, short, length-append (cube_at c leaf) (Neg v ∷ []))) t.is_tree.short;
      };
      inside = all_branched (IsOverBase (coordinator_base c)) c.tree leaf v
          (All-push (IsWithin (coordinator_base c).vars) (cube_at c leaf) (Pos v) cube_inside within) (All-push (IsWithin (coordinator_base c).vars) (cube_at c leaf) (Neg v) cube_inside within) t.inside;
      narrow = all_branched (All (IsWithin 2000000)) c.tree leaf v
          (All-push (IsWithin 2000000) (cube_at c leaf) (Pos v) cube_narrow narrow) (All-push (IsWithin 2000000) (cube_at c leaf) (Neg v) cube_narrow narrow) t.narrow;
    }

-- the leaf of a worker's job is split
pub is_split : (c : CoordinatorState) (worker : ℕ) (j : Job) (v : ℕ) → job_at c worker ≡ Some j → CanSplit c j.leaf v → IsCoordinator c → IsCoordinator (split c worker j v)
is_split c worker j v at can is = record {
  right = is.right;
  ended = λ all. absurd (open_is_not_closed (sym (get_or_from_slice_get (doubled j.leaf Open c.leaves) j.leaf Open Open branches.0) ∙ all j.leaf Open (got_within (doubled j.leaf Open c.leaves) j.leaf Open branches.0)));
  grounds = record { formula = is.grounds.formula; defined = is.grounds.defined; initial_is = is.grounds.initial_is; tree_is = split_tree c j.leaf v is in_tree can };
  tables = record {
    each_leaf = doubled_length c.leaves j.leaf Open inside ∙ ap suc is.tables.each_leaf ∙ sym (branched_length c.tree j.leaf v in_tree);
    each_fragment = doubled_length c.fragments j.leaf [] (omega (arith, in_tree, is.tables.each_fragment)) ∙ ap suc is.tables.each_fragment ∙ sym (branched_length c.tree j.leaf v in_tree);
    some_worker = omega (arith, desks, is.tables.some_worker);
    few_workers = omega (arith, desks, is.tables.few_workers);
    each_want = is.tables.each_want ∙ sym desks;
  };
  jobs = λ k i h. moved k i (job_before j.leaf _ i (sym (shift_at (slice_set c.jobs (worker - 1) None) j.leaf k) ∙ h));
  closing = λ i h. closes i h (unshifted j.leaf i);
  next = is.next;
  stuck = is.stuck;
  short = is.short;
  wanted = is.wanted;
}
  where
    inside : j.leaf < length c.leaves
    inside = got_within c.leaves j.leaf (GivenTo ((worker - 1) + 1)) (job_is c worker j at is).given

    in_tree : j.leaf < length c.tree
    in_tree = omega (arith, inside, is.tables.each_leaf)

    branches : (slice_get (doubled j.leaf Open c.leaves) j.leaf ≡ Some Open) × (slice_get (doubled j.leaf Open c.leaves) (suc j.leaf) ≡ Some Open)
    branches = doubled_same c.leaves j.leaf Open inside

    desks : length (map (shifted_job j.leaf) (slice_set c.jobs (worker - 1) None)) ≡ length c.jobs
    desks = length-map (slice_set c.jobs (worker - 1) None) (shifted_job j.leaf) ∙ length-set c.jobs (worker - 1) None

    open_given : (n : ℕ) → Some Open ≡ Some (GivenTo n) → ⊥
    open_given n e = cc

    moved : (k : ℕ) (i : Job) → (o : Job) × (get_or (slice_set c.jobs (worker - 1) None) k None ≡ Some o) × (record o { leaf = shifted j.leaf o.leaf } ≡ i) → IsJobAt (doubled j.leaf Open c.leaves) k i
    moved k i (o, was, now) =
        let fair : IsJobAt (slice_set c.leaves j.leaf Open) k o = dropped_jobs c worker j Open is at k o was in
        let other : o.leaf ≢ j.leaf = λ e. open_given (k + 1) (sym (got_set_same c.leaves j.leaf Open inside) ∙ sym (ap (slice_get (slice_set c.leaves j.leaf Open)) e) ∙ fair.given) in
        let there : slice_get (doubled j.leaf Open c.leaves) (shifted j.leaf o.leaf) ≡ Some (GivenTo (k + 1)) =
        ap (λ (l : List LeafState). slice_get l (shifted j.leaf o.leaf)) (sym (doubled_set c.leaves j.leaf Open Open)) ∙ doubled_at (slice_set c.leaves j.leaf Open) j.leaf o.leaf Open other ∙ fair.given in
        subst (IsJobAt (doubled j.leaf Open c.leaves) k) now (record { given = there; fits = fair.fits })

    not_closed : Some Open ≡ Some Closed → ⊥
    not_closed e = cc

    closes : (i : ℕ) → slice_get (doubled j.leaf Open c.leaves) i ≡ Some Closed → IsUnshifted j.leaf i → Closes (coordinator_base c) (get_or (branched j.leaf v c.tree) i []) (get_or (doubled j.leaf [] c.fragments) i [])
    closes i h (inl e) = absurd (not_closed (sym branches.0 ∙ ap (slice_get (doubled j.leaf Open c.leaves)) (sym e) ∙ h))
    closes i h (inr (inl e)) = absurd (not_closed (sym branches.1 ∙ ap (slice_get (doubled j.leaf Open c.leaves)) (sym e) ∙ h))
    closes i h (inr (inr (k, other, e))) =
        let was : slice_get c.leaves k ≡ Some Closed = sym (doubled_at c.leaves j.leaf k Open other) ∙ ap (slice_get (doubled j.leaf Open c.leaves)) (sym e) ∙ h in
        let cube : get_or (branched j.leaf v c.tree) i [] ≡ cube_at c k = ap (λ (p : ℕ). get_or (branched j.leaf v c.tree) p []) e ∙ branched_read c.tree j.leaf k v other in
        let text : get_or (doubled j.leaf [] c.fragments) i [] ≡ get_or c.fragments k [] = ap (λ (p : ℕ). get_or (doubled j.leaf [] c.fragments) p []) e ∙ doubled_read c.fragments j.leaf k [] [] other in
        subst (λ (q : Cube). Closes (coordinator_base c) q (get_or (doubled j.leaf [] c.fragments) i [])) (sym cube)
        (subst (Closes (coordinator_base c) (cube_at c k)) (sym text) (is.closing k was))

-- the same in the names of the code's tables
abbrev pub torn : CoordinatorState → List Cube → LeafRows → List (Option Job) → CoordinatorState
torn c tree rows jobs = record c { tree = tree; leaves = rows.states; fragments = rows.fragments; jobs = jobs }

-- what the code did
pub record IsTorn (c : CoordinatorState) (n leaf v : ℕ) (tree : List Cube) (rows : LeafRows) (jobs : List (Option Job)) : Type 0 where
  pub tree_is : tree ≡ branched leaf v c.tree
  pub rows_are : rows ≡ record { states = doubled leaf Open c.leaves; fragments = doubled leaf [] c.fragments }
  pub jobs_are : jobs ≡ map (shifted_job leaf) (slice_set c.jobs (n - 1) None)

pub torn_is : (c : CoordinatorState) (w n leaf v : ℕ) (tree : List Cube) (rows : LeafRows) (jobs : List (Option Job)) → n ≡ w → IsTorn c n leaf v tree rows jobs → (j : Job) → j.leaf ≡ leaf → torn c tree rows jobs ≡ split c w j v
torn_is c w n leaf v tree rows jobs number t j at =
    ap (λ (q : List Cube). torn c q rows jobs) t.tree_is
    ∙ ap (λ (r : LeafRows). torn c (branched leaf v c.tree) r jobs) t.rows_are
    ∙ ap (λ (l : List (Option Job)). torn c (branched leaf v c.tree) (record { states = doubled leaf Open c.leaves; fragments = doubled leaf [] c.fragments }) l) t.jobs_are
    ∙ ap (λ (k : ℕ). torn c (branched leaf v c.tree) (record { states = doubled leaf Open c.leaves; fragments = doubled leaf [] c.fragments }) (map (shifted_job leaf) (slice_set c.jobs (k - 1) None))) number
    ∙ ap (λ (l : ℕ). torn c (branched l v c.tree) (record { states = doubled l Open c.leaves; fragments = doubled l [] c.fragments }) (map (shifted_job l) (slice_set c.jobs (w - 1) None))) (sym at)

pub torn_keeps : (c s : CoordinatorState) (w n leaf v : ℕ) (tree : List Cube) (rows : LeafRows) (jobs : List (Option Job)) → c ≡ s → n ≡ w → IsCoordinator c → HasLeaf s w leaf → CanSplit s leaf v → IsTorn c n leaf v tree rows jobs → IsCoordinator (torn c tree rows jobs)
torn_keeps c s w n leaf v tree rows jobs same number is (j, there, at) can t =
    let job : job_at c w ≡ Some j = subst (λ (d : CoordinatorState). job_at d w ≡ Some j) (sym same) there in
    let can_here : CanSplit c j.leaf v = subst (λ (l : ℕ). CanSplit c l v) (sym at) (subst (λ (d : CoordinatorState). CanSplit d leaf v) (sym same) can) in
    subst IsCoordinator (sym (torn_is c w n leaf v tree rows jobs number t j at)) (is_split c w j v job can_here is)

pub torn_same : (c s : CoordinatorState) (w n leaf v : ℕ) (tree : List Cube) (rows : LeafRows) (jobs : List (Option Job)) → c ≡ s → n ≡ w → HasLeaf s w leaf → IsTorn c n leaf v tree rows jobs
    → (j : Job) → job_at s w ≡ Some j → torn c tree rows jobs ≡ split s w j v
torn_same c s w n leaf v tree rows jobs same number (i, there, at) t j job =
    torn_is c w n leaf v tree rows jobs number t j (ap (λ (k : Job). k.leaf) (same_some j i (sym job ∙ there)) ∙ at) ∙ ap (λ (d : CoordinatorState). split d w j v) same

-- the chosen variable is not in the leaf's cube
pub leaf_free : (c s : CoordinatorState) (leaf v : ℕ) → c ≡ s → CanSplit s leaf v → IsFree (get_or c.tree leaf []) v
leaf_free c s leaf v same can =
    subst (λ (d : CoordinatorState). IsFree (get_or d.tree leaf []) v) (sym same) (chosen_free s.formula (coordinator_opening s) (cube_at s leaf) v can.choice)

-- the leaf of each job has a place below 65,536
pub jobs_low : (c : CoordinatorState) (n : ℕ) → IsCoordinator c → (k : ℕ) (j : Job) → get_or (slice_set c.jobs n None) k None ≡ Some j → j.leaf < 65536
jobs_low c n is k j h = go (read_set_cases c.jobs n k None None (Some j) h)
  where
    go : ((k ≡ n) × (None ≡ Some j)) ⊎ (((k ≢ n) ⊎ (length c.jobs ≤ n)) × (get_or c.jobs k None ≡ Some j)) → j.leaf < 65536
    go (inl p) = absurd (none_some j p.1)
    go (inr p) = let lt = leaf_within c.leaves k j (is.jobs k j p.1) in omega (arith, lt, is.tables.each_leaf, is.grounds.tree_is.is_tree.count)

-- a limit that was met under a leaf that can be split
pub limit_splits : (s t new : CoordinatorState) (w leaf v : ℕ) → t ≡ s → HasLeaf s w leaf → MaySplit s leaf → Chooses s.formula (coordinator_opening s) (cube_at s leaf) (Some v)
    → ((j : Job) → job_at t w ≡ Some j → new ≡ split t w j v) → (j : Job) → job_at s w ≡ Some j → DeliversLimit s w j reaction.Taken new
limit_splits s t new w leaf v same (i, there, at) may choice now j job =
    let leaf_is : j.leaf ≡ leaf = ap (λ (k : Job). k.leaf) (same_some j i (sym job ∙ there)) ∙ at in
    let can : CanSplit s leaf v = record { may = may; choice = choice } in
    DeliversLimit.splits v (subst (λ (l : ℕ). CanSplit s l v) (sym leaf_is) can) refl
    (now j (subst (λ (d : CoordinatorState). job_at d w ≡ Some j) (sym same) job) ∙ ap (λ (d : CoordinatorState). split d w j v) same)

-- and under a leaf for which the split rule chooses no variable
pub limit_stops : (s t new : CoordinatorState) (w leaf : ℕ) → t ≡ s → HasLeaf s w leaf → Chooses s.formula (coordinator_opening s) (cube_at s leaf) None → new ≡ record t { stuck = true }
    → (j : Job) → job_at s w ≡ Some j → DeliversLimit s w j reaction.Taken new
limit_stops s t new w leaf same (i, there, at) none now j job =
    let leaf_is : j.leaf ≡ leaf = ap (λ (k : Job). k.leaf) (same_some j i (sym job ∙ there)) ∙ at in
    DeliversLimit.stops (λ v can. none_some v (one_choice s.formula (coordinator_opening s) (cube_at s leaf) None (Some v) none (subst (λ (l : ℕ). Chooses s.formula (coordinator_opening s) (cube_at s l) (Some v)) leaf_is can.choice)))
    refl (now ∙ ap (λ (d : CoordinatorState). record d { stuck = true }) same)
