-- Drills: random closed schedules. A turn has three words a, b and c: a says which kind of event happens, c at which node, and b the rest.
use Rattle.std.specs.Prelude.{◌≡◌, ◌≢◌, ℕ, ◌+◌, ◌%◌, ◌==◌, nat_lt, List, [], ◌∷◌, ◌++◌, length, Contains, slice_index, Option, Some, None, if◌then◌else◌}
use Rattle.lrat_check.specs.Verdicts.{Differ}
use Rattle.lrat_check.specs.declared.verdict.Reaction.{Reaction}
use Rattle.lrat_check.specs.declared.verdict.Reaction.TheVariants as reaction
use Rattle.lrat_check.specs.declared.verdict.Verdict.{Verdict}
use Rattle.honest_cluster.specs.ClosedSchedule.{Beginning, ClosedState, HappensClosed, new_closed, verdict_at}
use Rattle.honest_cluster.specs.declared.event.ClosedEvent.{ClosedEvent}
use Rattle.honest_cluster.specs.declared.event.ClosedEvent.TheVariants.{Deliver, Work, Poll, Restart}

-- `delivery b node frames`: the event that delivers frame `b % frames`, counted from 0, to the node; none if there are no frames
abbrev pub delivery : ℕ → ℕ → ℕ → Option ClosedEvent
delivery b node frames = if frames == 0 then None else Some (Deliver node (b % frames))

-- `renewal b node next`: the event that restarts the node under the number `next`; none unless b is a multiple of 16
abbrev pub renewal : ℕ → ℕ → ℕ → Option ClosedEvent
renewal b node next = if b % 16 == 0 then Some (Restart node next) else None

-- `event_of kind b node frames next`: the event of a kind from 0 to 15. Of the kinds, six deliver
-- one of the `frames` sent so far, three let the node work, six poll it for a frame (the
-- coordinator for one to worker 1, 2 or 3), and the last one may restart it under the number
-- `next`; `b` is the random number by which a kind chooses.
abbrev pub event_of : ℕ → ℕ → ℕ → ℕ → ℕ → Option ClosedEvent
event_of kind b node frames next =
    if nat_lt kind 6 then delivery b node frames
    else (if nat_lt kind 9 then Some (Work node)
    else (if nat_lt kind 15 then Some (Poll node (1 + b % 3))
    else renewal b node next))

-- `drawn_event words frames next`: the event that the words of a turn stand for if polls have returned `frames` frames; a restart is under
-- the number `next`
abbrev pub drawn_event : List ℕ → ℕ → ℕ → Option ClosedEvent
drawn_event words frames next = event_of (slice_index words 0 % 16) (slice_index words 1) (slice_index words 2 % 4) frames next

-- `next_after event next`: the number of the next restart after this event, if it was `next` before: each restart uses one up
abbrev pub next_after : Option ClosedEvent → ℕ → ℕ
next_after (Some (Restart node number)) next = next + 1
next_after event next = next

-- The state of a drill.
pub record DrillState : Type 0 where
  -- the cluster
  pub cluster : ClosedState
  -- the number under which the next restart restarts its node
  pub next : ℕ
  -- the cluster after each turn so far, in order
  pub moments : List ClosedState
  -- how many reactions were refusals
  pub refused : ℕ
  -- after how many turns a node held a verdict that differed from one held so far
  pub disagreements : ℕ

-- the state of a drill before the first turn: the nodes of a new cluster of three workers have used the numbers 1 to 4, and hold no verdict
abbrev pub begun : ClosedState → DrillState
begun s = record { cluster = s; next = 5; moments = []; refused = 0; disagreements = 0 }

-- the cluster has this many workers and is as it was made: no event has happened
pub record IsNew (workers : ℕ) (s : ClosedState) : Type 0 where
  pub beginning : Beginning
  pub many : beginning.workers ≡ workers
  pub made : s ≡ new_closed beginning

-- `Occurs s event answer new`: the event leads the cluster from s to `new` with this reaction, which is not `NoMemory`; without an event
-- nothing happens
abbrev pub Occurs : ClosedState → Option ClosedEvent → Option Reaction → ClosedState → Type 0
Occurs s None None new = new ≡ s
Occurs s (Some event) (Some answer) new = HappensClosed s event answer new × (answer ≢ reaction.NoMemory)
Occurs s event answer new = ⊥

-- there is a reaction, and it is a refusal
abbrev pub IsRefusedReaction : Option Reaction → Type 0
IsRefusedReaction answer = (why : ℕ) × (answer ≡ Some (reaction.Refused why))

-- `Holds s v`: a node of the cluster s holds the verdict v
abbrev pub Holds : ClosedState → Verdict → Type 0
Holds s v = (node : ℕ) × (verdict_at s node ≡ Some v)

-- `HasHeld moments v`: at one of these moments a node held the verdict v
abbrev pub HasHeld : List ClosedState → Verdict → Type 0
HasHeld moments v = (s : ClosedState) × Contains moments s × Holds s v

-- `Disagrees moments s`: a node of the cluster s holds a verdict that differs from one that a node held at one of these moments
abbrev pub Disagrees : List ClosedState → ClosedState → Type 0
Disagrees moments s = (v w : Verdict) × Holds s v × HasHeld moments w × Differ v w

-- a counter is one higher after than before if P holds, and else the same
pub data Counts (P : Type 0) (old new : ℕ) : Type 0 where
  counted : P → new ≡ old + 1 → Counts P old new
  passed : ¬ P → new ≡ old → Counts P old new

-- a turn of these words leads from one state of the drill to another
pub record TakesTurn (old : DrillState) (words : List ℕ) (new : DrillState) : Type 0 where
  pub answer : Option Reaction
  pub occurs : Occurs old.cluster (drawn_event words (length old.cluster.frames) old.next) answer new.cluster
  pub next : new.next ≡ next_after (drawn_event words (length old.cluster.frames) old.next) old.next
  pub moments : new.moments ≡ old.moments ++ new.cluster ∷ []
  pub refused : Counts (IsRefusedReaction answer) old.refused new.refused
  pub disagreements : Counts (Disagrees new.moments new.cluster) old.disagreements new.disagreements

-- `Drills old turns new`: the turns, one after the other, lead from one state of the drill to another
abbrev pub Drills : DrillState → List (List ℕ) → DrillState → Type 0
Drills old [] new = new ≡ old
Drills old (words ∷ turns) new = (mid : DrillState) × TakesTurn old words mid × Drills mid turns new

-- a drill of all these turns leads from the new cluster `old` to `new`
pub record HasDrilled (old : ClosedState) (turns : List (List ℕ)) (new : ClosedState) : Type 0 where
  pub last : DrillState
  pub drills : Drills (begun old) turns last
  pub cluster : last.cluster ≡ new

-- a drill that ended for want of memory: some of the first turns lead from the new cluster `old` to `new`
pub record StopsShort (old : ClosedState) (turns : List (List ℕ)) (new : ClosedState) : Type 0 where
  pub front : List (List ℕ)
  pub rest : List (List ℕ)
  pub whole : turns ≡ front ++ rest
  pub drilled : HasDrilled old front new
