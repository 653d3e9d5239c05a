-- Fronts of a coordinator: the joined fragments of the first leaves, before the last leaf is closed.
use Rattle.std.specs.Prelude.{◌≡◌, ℕ, ◌<◌, ◌≤◌, List, length, take, Option, Some, None, slice_get}
use Rattle.dimacs.specs.logic.Cnf.{Cnf}
use Rattle.icnf.specs.Leaves.{Cube}
use Rattle.cube_split.specs.declared.pair.Pair.{Pair}
use Rattle.proof_join.specs.Fronts.{Front, IsFrontOf}
use Rattle.coordinator_core.specs.declared.job_state.LeafState.{LeafState}
use Rattle.coordinator_core.specs.declared.job_state.LeafState.TheVariants.{Closed}

-- the first `f.count` leaves are closed, and f has their fragments joined; so no later step changes these leaves, and a split moves only
-- leaves after them
pub record IsFrontOfTree (F : Cnf) (pairs : List Pair) (tree : List Cube) (leaves : List LeafState) (fragments : List (List ℕ)) (f : Front) : Type 0 where
  pub inside : f.count ≤ length tree
  pub closed : (i : ℕ) → i < f.count → slice_get leaves i ≡ Some Closed
  pub front : IsFrontOf F pairs (take f.count tree) (take f.count fragments) f

-- the front, if there is one, is one of this tree
abbrev pub IsJoined : Cnf → List Pair → List Cube → List LeafState → List (List ℕ) → Option Front → Type 0
IsJoined F pairs tree leaves fragments None = Unit {0}
IsJoined F pairs tree leaves fragments (Some f) = IsFrontOfTree F pairs tree leaves fragments f

-- the number of leaves that are joined; 0 without a front
abbrev pub count_of : Option Front → ℕ
count_of None = 0
count_of (Some f) = f.count
