-- The accounts of a run over connections, one for each worker. `least` tells how many calls a peer makes at least to answer, and
-- `hands_out` whether the run goes on at its verdict.
use Rattle.std.specs.Prelude.{◌≡◌, ℕ, zero, suc, ◌+◌, ◌≤◌, ◌⊎◌, Bool, true, false, List, [], ◌∷◌, length, sum_by, All}
use Rattle.coordinator_core.specs.Coordinator.{CoordinatorState}
use Rattle.lrat_check.specs.declared.verdict.Verdict.{Verdict}
use Rattle.lrat_check.specs.declared.verdict.Verdict.TheVariants.{Nothing}
use Rattle.runs.specs.Accounts.{RoseBy}
use Rattle.runs.specs.inner.Accounts.{one_if_open}
use Rattle.runs.specs.declared.connection.Connection.{Connection}

-- how many of these connections are open
abbrev pub open_count : {P : Type 0} → List (Connection P) → ℕ
open_count {P} connections = sum_by (λ (l : Connection P). one_if_open l.is_open) connections

-- `open_in connections place`: 1 if the connection of this index, counted from 0, is open, else 0
abbrev pub open_in : {P : Type 0} → List (Connection P) → ℕ → ℕ
open_in [] place = 0
open_in (l ∷ connections) zero = one_if_open l.is_open
open_in (l ∷ connections) (suc place) = open_in connections place

-- `open_at connections worker`: 1 if the connection of this worker, counted from 1, is open, else 0
abbrev pub open_at : {P : Type 0} → List (Connection P) → ℕ → ℕ
open_at connections zero = 0
open_at connections (suc place) = open_in connections place

-- Refusals and open connections, counted together, do not rise, neither over all links nor over any one: a link that refused is closed.
-- `refusals` counts all refusals, `refused` those of each worker's link.
pub record Closing {L P : Type 0} (refusals : L → ℕ) (refused : L → ℕ → ℕ) (old new : L) (before after : List (Connection P)) : Type 0 where
  -- over all links
  pub all : refusals new + open_count after ≤ refusals old + open_count before
  -- over the link of each worker
  pub each : (worker : ℕ) → refused new worker + open_at after worker ≤ refused old worker + open_at before worker

-- the connection is open, and no frame waits in its inbox
pub record IsNew {P : Type 0} (l : Connection P) : Type 0 where
  pub is_open : l.is_open ≡ true
  pub empty : l.inbox.waiting.items ≡ []

-- the connection is open, and its first turn makes at least three calls: one to send, and two of its peer
pub record IsUntouched {P : Type 0} (least : P → ℕ) (l : Connection P) : Type 0 where
  pub is_open : l.is_open ≡ true
  pub two : 2 ≤ least l.peer

-- `HasTurned least old new v w l m`: a turn led from the count `old` of calls to `new`, from the verdict v to w, and from the connection l
-- to m. Either l was closed and nothing changed; or a call was made, and if the verdict changed, at least `1 + least` calls were made and m
-- is open.
abbrev pub HasTurned : {P : Type 0} → (P → ℕ) → ℕ → ℕ → Verdict → Verdict → Connection P → Connection P → Type 0
HasTurned least old new v w l m =
    ((l.is_open ≡ false) × (m ≡ l) × (w ≡ v))
    ⊎ (RoseBy 1 old new × ((w ≡ v) ⊎ (RoseBy (1 + least l.peer) old new × (m.is_open ≡ true))))

-- no call was made since the count `base`, the coordinator holds no verdict and is not stuck, and there is a connection; each one's first
-- turn makes at least three calls
pub record IsFresh {P : Type 0} (least : P → ℕ) (base calls : ℕ) (c : CoordinatorState) (connections : List (Connection P)) : Type 0 where
  pub none : calls ≡ base
  pub verdict : c.verdict ≡ Nothing
  pub stuck : c.stuck ≡ false
  pub some : 1 ≤ length connections
  pub untouched : All (IsUntouched least) connections

-- A call was made since the count `base`. If a verdict is held, at least three were made; or two were, and the verdict is handed out over a
-- connection that is still open, whose turn makes another.
pub record HasCalled {P : Type 0} (hands_out : Bool) (base calls : ℕ) (c : CoordinatorState) (connections : List (Connection P)) : Type 0 where
  pub one : RoseBy 1 base calls
  pub three : (c.verdict ≡ Nothing) ⊎ RoseBy 3 base calls ⊎ ((hands_out ≡ true) × RoseBy 2 base calls × (1 ≤ open_count connections))

-- the account of a run at any round: no call was made yet, or some were
pub record IsUnderWay {P : Type 0} (hands_out : Bool) (least : P → ℕ) (base calls : ℕ) (c : CoordinatorState) (connections : List (Connection P)) : Type 0 where
  pub account : IsFresh least base calls c connections ⊎ HasCalled hands_out base calls c connections
