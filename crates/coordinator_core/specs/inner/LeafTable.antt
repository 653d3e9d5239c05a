-- The invariant of the table of leaves, and the room of the tables of the split rule.
use Rattle.std.specs.Prelude.{◌≡◌, ℕ, ◌<◌, ◌≤◌, Bool, true, false, List, length, Option, Some, None, slice_index_or, count_by}
use Rattle.coordinator_core.specs.Coordinator.{is_open}
use Rattle.coordinator_core.specs.declared.job_state.LeafState.{LeafState}
use Rattle.coordinator_core.specs.declared.job_state.LeafState.TheVariants.{Open, GivenTo, Closed}

-- the state and the fragment of each leaf
pub record LeafRows : Type 0 where
  pub states : List LeafState
  pub fragments : List (List ℕ)

-- tells whether a leaf is not closed
abbrev pub is_unclosed : LeafState → Bool
is_unclosed Open = true
is_unclosed (GivenTo worker) = true
is_unclosed Closed = false

-- `unclosed` is the number of leaves that are not closed, and no leaf with an index below `from` is open
pub record IsLeafTable (states : List LeafState) (fragments : List (List ℕ)) (unclosed from : ℕ) : Type 0 where
  pub same : length fragments ≡ length states
  pub counted : unclosed ≡ count_by is_unclosed states
  pub none_open : (i : ℕ) → i < from → is_open (slice_index_or states i Closed) ≡ false

-- the tables of the split rule, if they were made, have room for this number of variables
abbrev pub HasRoom : ℕ → Option ℕ → Type 0
HasRoom vars None = Unit {0}
HasRoom vars (Some room) = vars ≤ room
