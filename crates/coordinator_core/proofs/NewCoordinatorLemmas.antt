-- A new coordinator.
use Rattle.std.proofs.Common.{◌≡◌, ℕ, zero, suc, ◌<◌, ◌≤◌, inl, inr, List, [], length, Option, Some, None, slice_get, get_or, All, refl, subst, sym, ap, ◌∙◌, arith}
use Rattle.std.specs.Prelude.{nat_le, replicate}
use Rattle.std.proofs.lemmas.Bool.{cases_Bool}
use Rattle.std.proofs.lemmas.Bool.Decides.{nat_tests}
use Rattle.std.proofs.lemmas.List.{length-replicate}
use Rattle.std.proofs.lemmas.List.Elements.{All-weaker}
use Rattle.dimacs.specs.logic.Cnf.{Cnf, IsFormula}
use Rattle.dimacs.specs.logic.Literal.{IsWithin}
use Rattle.icnf.specs.Leaves.{Cube}
use Rattle.icnf.proofs.LeavesLemmas.{leaves_some}
use Rattle.cube_split.specs.Definitions.{base_with}
use Rattle.cube_split.specs.Pairs.{AreDefined, AreOf, Definitions, IsBaseWith, no_definitions}
use Rattle.cube_split.specs.declared.pair.Pair.{Pair}
use Rattle.cube_split.proofs.DefinedLemmas.{few_chosen, none_chosen}
use Rattle.cube_split.proofs.PlainLemmas.{plain_base}
use Rattle.evidence.specs.Jobs.{IsOverBase}
use Rattle.coordinator_core.specs.Coordinator.{CoordinatorState, new_coordinator, AreClosed, want_at}
use Rattle.coordinator_core.specs.Invariant.{IsCoordinator, IsTreeOf, IsNote}
use Rattle.coordinator_core.specs.inner.LeafTable.{LeafRows}
use Rattle.coordinator_core.specs.declared.job_state.Job.{Job}
use Rattle.coordinator_core.specs.declared.job_state.LeafState.TheVariants.{Open, Closed}

none_some : {X : Type 0} (a : X) → None ≡ Some a → ⊥
none_some a e = cc

nothing_there : {X : Type 0} (n k : ℕ) (x : X) → get_or (replicate n None) k None ≡ Some x → ⊥
nothing_there zero k x h = none_some x h
nothing_there (suc n) zero x h = none_some x h
nothing_there (suc n) (suc k) x h = nothing_there n k x h

none_closed : (n i : ℕ) → slice_get (replicate n Open) i ≡ Some Closed → ⊥
none_closed zero i h = cc
none_closed (suc n) zero h = cc
none_closed (suc n) (suc i) h = none_closed n i h

some_open : (n : ℕ) → 1 ≤ n → AreClosed (replicate n Open) → ⊥
some_open zero some all = absurd (omega (arith, some))
some_open (suc n) some all = let e : Open ≡ Closed = all 0 Open (omega arith) in cc

-- within the written limits of a formula every variable of its base is one that a frame may have
pub narrow_tree : (F : Cnf) (d : Definitions) (tree : List Cube) → AreOf F d → All (IsOverBase (base_with F d.pairs)) tree → (1000000 < F.vars → All (All (IsWithin 2000000)) tree)
    → All (All (IsWithin 2000000)) tree
narrow_tree F d tree are inside narrow =
    let chosen = few_chosen F d.wanted d.pairs are.defined in
    let few : length d.pairs ≤ 64 = omega (arith, chosen, are.few) in
    elim (cases_Bool (nat_le F.vars 1000000)) [
      | inl low ↦
          let vars : F.vars ≤ 1000000 = grind (arith, nat_tests) in
          let more : (base_with F d.pairs).vars ≤ 2000000 = omega arith in
          All-weaker (IsOverBase (base_with F d.pairs)) (All (IsWithin 2000000))
          (λ q h. All-weaker (IsWithin (base_with F d.pairs).vars) (IsWithin 2000000) (λ l w. (w.0, omega (arith, w.1))) q h) tree inside
      | inr high ↦ narrow (grind (arith, nat_tests))
    ]

-- a new coordinator with these definitions
abbrev pub beginning : Cnf → Definitions → List Cube → ℕ → ℕ → ℕ → CoordinatorState
beginning F d tree limit workers session = record (new_coordinator F tree limit workers session) { definitions = d }

pub begins : (F : Cnf) (d : Definitions) (tree : List Cube) (limit workers session : ℕ) → IsFormula F → AreOf F d → IsTreeOf (base_with F d.pairs) tree → 1 ≤ workers → workers ≤ 64
    → IsCoordinator (beginning F d tree limit workers session)
begins F d tree limit workers session formula defined tree_of some few =
    let one : 0 < length tree = leaves_some tree_of.is_tree.leaves in
    record {
      right = tt;
      ended = λ all. absurd (some_open (length tree) (omega (arith, one)) all);
      grounds = record { formula = formula; defined = defined; initial_is = tree_of; tree_is = tree_of };
      tables = record {
        each_leaf = length-replicate (length tree) Open;
        each_fragment = length-replicate (length tree) [];
        some_worker = omega (arith, some, length-replicate {A = Option Job} workers None);
        few_workers = omega (arith, few, length-replicate {A = Option Job} workers None);
        each_want = length-replicate workers None ∙ sym (length-replicate workers None);
      };
      jobs = λ slot j e. absurd (nothing_there workers slot j e);
      closing = λ i h. absurd (none_closed (length tree) i h);
      next = omega arith;
      stuck = λ _. refl;
      short = omega arith;
      wanted = noted;
    }
  where
    noted : (w : ℕ) → IsNote (want_at (beginning F d tree limit workers session) w) []
    noted zero offset e = absurd (none_some offset e)
    noted (suc k) offset e = absurd (nothing_there workers k offset e)

-- the same in the names of the code's tables
pub begin_is : (F : Cnf) (d : Definitions) (initial_tree tree : List Cube) (limit workers session n : ℕ) (rows : LeafRows) (jobs : List (Option Job)) (wants : List (Option ℕ)) → IsFormula F → AreOf F d → IsTreeOf (base_with F d.pairs) tree → 1 ≤ workers → workers ≤ 64
    → initial_tree ≡ tree → n ≡ length tree → rows ≡ record { states = replicate n Open; fragments = replicate n [] } → jobs ≡ replicate workers None → wants ≡ replicate workers None
    → IsCoordinator (record (beginning F d tree limit workers session) { initial_tree = initial_tree; leaves = rows.states; fragments = rows.fragments; jobs = jobs; wants = wants })
begin_is F d initial_tree tree limit workers session n rows jobs wants formula defined tree_of some few same count tables none unwanted =
    let C : List Cube → LeafRows → List (Option Job) → List (Option ℕ) → CoordinatorState =
    λ p r j w. record (beginning F d tree limit workers session) { initial_tree = p; leaves = r.states; fragments = r.fragments; jobs = j; wants = w } in
    let rows_are : rows ≡ record { states = replicate (length tree) Open; fragments = replicate (length tree) [] } =
    tables ∙ ap (λ (k : ℕ). record { states = replicate k Open; fragments = replicate k [] }) count in
    subst (λ (p : List Cube). IsCoordinator (C p rows jobs wants)) (sym same)
    (subst (λ (r : LeafRows). IsCoordinator (C tree r jobs wants)) (sym rows_are)
    (subst (λ (j : List (Option Job)). IsCoordinator (C tree (record { states = replicate (length tree) Open; fragments = replicate (length tree) [] }) j wants)) (sym none)
    (subst (λ (w : List (Option ℕ)). IsCoordinator (C tree (record { states = replicate (length tree) Open; fragments = replicate (length tree) [] }) (replicate workers None) w)) (sym unwanted)
    (begins F d tree limit workers session formula defined tree_of some few))))

-- and its state is that of a new coordinator
pub begun : (F : Cnf) (d : Definitions) (initial_tree tree : List Cube) (limit workers session n : ℕ) (rows : LeafRows) (jobs : List (Option Job)) (wants : List (Option ℕ))
    → tree ≡ initial_tree → n ≡ length tree → rows ≡ record { states = replicate n Open; fragments = replicate n [] } → jobs ≡ replicate workers None → wants ≡ replicate workers None
    → record (beginning F d tree limit workers session) { initial_tree = initial_tree; leaves = rows.states; fragments = rows.fragments; jobs = jobs; wants = wants } ≡ beginning F d initial_tree limit workers session
begun F d initial_tree tree limit workers session n rows jobs wants same count tables none unwanted =
    let C : List Cube → LeafRows → List (Option Job) → List (Option ℕ) → CoordinatorState =
    λ t r j w. record (beginning F d t limit workers session) { initial_tree = initial_tree; leaves = r.states; fragments = r.fragments; jobs = j; wants = w } in
    let rows_are : rows ≡ record { states = replicate (length initial_tree) Open; fragments = replicate (length initial_tree) [] } =
    tables ∙ ap (λ (k : ℕ). record { states = replicate k Open; fragments = replicate k [] }) (count ∙ ap length same) in
    ap (λ (t : List Cube). C t rows jobs wants) same ∙ ap (λ (r : LeafRows). C initial_tree r jobs wants) rows_are
    ∙ ap (λ (j : List (Option Job)). C initial_tree (record { states = replicate (length initial_tree) Open; fragments = replicate (length initial_tree) [] }) j wants) none
    ∙ ap (λ (w : List (Option ℕ)). C initial_tree (record { states = replicate (length initial_tree) Open; fragments = replicate (length initial_tree) [] }) (replicate workers None) w) unwanted

-- without definitions the base has the formula's variables
pub plain_inside : (F : Cnf) (tree : List Cube) → All (IsOverBase F) tree → (B : Cnf) → IsBaseWith F 0 B → All (IsOverBase B) tree
plain_inside F tree inside B is = subst (λ (D : Cnf). All (IsOverBase D) tree) (sym (plain_base F B is)) inside

pub plain_is : (F : Cnf) (d : Definitions) → AreOf F d → d.wanted ≡ 0 → d ≡ no_definitions
plain_is F d are none =
    let empty : d.pairs ≡ [] = none_chosen F d.pairs (subst (λ (n : ℕ). AreDefined F n [] d.pairs) none are.defined) in
    ap (λ (n : ℕ). record { wanted = n; pairs = d.pairs }) none ∙ ap (λ (ps : List Pair). record { wanted = 0; pairs = ps }) empty

pub begins_plain : (F : Cnf) (tree : List Cube) (limit workers session : ℕ) (s : CoordinatorState)
    → (d : Definitions) × AreOf F d × (d.wanted ≡ 0) × (s ≡ beginning F d tree limit workers session) → s ≡ new_coordinator F tree limit workers session
begins_plain F tree limit workers session s (d, are, none, now) = now ∙ ap (λ (e : Definitions). beginning F e tree limit workers session) (plain_is F d are none)
