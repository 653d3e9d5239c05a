-- The invariant of a coordinator, whatever frames are delivered. To be believed are `HasJoined`, which says what the last closed leaf
-- brings (with `JoinedOver`, whose law `definitions_are_a_preamble` makes the text a proof), and `right` of `IsCoordinator`. The rest is
-- what one call needs of the call before it, and nobody has to read it.
use Rattle.std.specs.Prelude.{◌≡◌, ℕ, ◌+◌, ◌<◌, ◌≤◌, ◌^◌, true, List, [], length, All, Option, Some, None, slice_get, slice_index_or, ◌⊎◌}
use Rattle.dimacs.specs.logic.Cnf.{Cnf, IsFormula}
use Rattle.dimacs.specs.logic.Literal.{IsWithin}
use Rattle.icnf.specs.Leaves.{Cube, IsTree}
use Rattle.lrat_text.specs.Log.{Closes}
use Rattle.lrat_check.specs.Verdicts.{Right}
use Rattle.lrat_check.specs.declared.verdict.Verdict.TheVariants.{Nothing, Proof}
use Rattle.frames.specs.Answers.{length_of}
use Rattle.cube_split.specs.Definitions.{base_with}
use Rattle.cube_split.specs.Pairs.{Definitions, AreOf}
use Rattle.proof_join.specs.Definitions.{JoinedOver}
use Rattle.evidence.specs.Evidence.{bytes_in}
use Rattle.evidence.specs.Jobs.{IsOverBase}
use Rattle.coordinator_core.specs.Coordinator.{CoordinatorState, AreClosed, coordinator_base, cube_at, want_at}
use Rattle.coordinator_core.specs.declared.job_state.Fixed.{Fixed}
use Rattle.coordinator_core.specs.declared.job_state.Job.{Job}
use Rattle.coordinator_core.specs.declared.job_state.LeafState.{LeafState}
use Rattle.coordinator_core.specs.declared.job_state.LeafState.TheVariants.{GivenTo, Closed}

-- if every leaf is closed: the joined fragments are the verdict, or they are too long
pub record HasJoined (c : CoordinatorState) : Type 0 where
  pub text : List ℕ
  pub joined : JoinedOver c.formula c.definitions.pairs c.tree c.fragments text
  pub end : (c.verdict ≡ Proof text) ⊎ ((c.stuck ≡ true) × (2 ^ 32 ≤ length text))

-- the cubes are the leaves of a tree, over the variables of the base B, and their literals have variables that a frame may have
pub record IsTreeOf (B : Cnf) (tree : List Cube) : Type 0 where
  pub is_tree : IsTree tree
  pub inside : All (IsOverBase B) tree
  pub narrow : All (All (IsWithin 2000000)) tree

-- if something is fixed of a job, its evidence has at most as many bytes as were announced
abbrev pub FitsFixed : Option Fixed → Type 0
FitsFixed o = (x : Fixed) → o ≡ Some x → length x.evidence.bytes ≤ length_of x.evidence.finding

-- the formula is within the limits, the definitions are those of the formula, and both trees are over the variables of the base
pub record HasValidTrees (F : Cnf) (d : Definitions) (initial_tree tree : List Cube) : Type 0 where
  pub formula : IsFormula F
  pub defined : AreOf F d
  pub initial_is : IsTreeOf (base_with F d.pairs) initial_tree
  pub tree_is : IsTreeOf (base_with F d.pairs) tree

-- each leaf and each worker has an entry in the tables; there are 1 to 64 workers
pub record HasTables (tree : List Cube) (leaves : List LeafState) (fragments : List (List ℕ)) (jobs : List (Option Job)) (wants : List (Option ℕ)) : Type 0 where
  pub each_leaf : length leaves ≡ length tree
  pub each_fragment : length fragments ≡ length tree
  pub some_worker : 1 ≤ length jobs
  pub few_workers : length jobs ≤ 64
  pub each_want : length wants ≡ length jobs

-- the job in a worker's slot: its leaf is given to this worker (slot k is of worker k + 1)
pub record IsJobAt (leaves : List LeafState) (slot : ℕ) (j : Job) : Type 0 where
  pub given : slice_get leaves j.leaf ≡ Some (GivenTo (slot + 1))
  pub fits : FitsFixed j.fixed

-- a noted offset is below the number of these bytes
abbrev pub IsNote : Option ℕ → List ℕ → Type 0
IsNote noted bytes = (offset : ℕ) → noted ≡ Some offset → offset < length bytes

-- the invariant of a coordinator between two events
pub record IsCoordinator (c : CoordinatorState) : Type 0 where
  pub right : Right c.formula c.verdict
  pub ended : AreClosed c.leaves → HasJoined c
  pub grounds : HasValidTrees c.formula c.definitions c.initial_tree c.tree
  pub tables : HasTables c.tree c.leaves c.fragments c.jobs c.wants
  pub jobs : (slot : ℕ) (j : Job) → slice_index_or c.jobs slot None ≡ Some j → IsJobAt c.leaves slot j
  pub closing : (i : ℕ) → slice_get c.leaves i ≡ Some Closed → Closes (coordinator_base c) (cube_at c i) (slice_index_or c.fragments i [])
  pub next : c.next ≤ 2 ^ 64
  pub stuck : c.stuck ≡ true → c.verdict ≡ Nothing
  pub short : length (bytes_in c.verdict) < 2 ^ 32
  pub wanted : (worker : ℕ) → IsNote (want_at c worker) (bytes_in c.verdict)
