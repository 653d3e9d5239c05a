-- The accounts of a run whose links come and go: bounds on the calls that it makes, and, for each place, on the calls that are refused and
-- the connections that are open. A place is the index of a link, from 0.
use Rattle.std.specs.Prelude.{◌≡◌, ℕ, zero, suc, ◌+◌, ◌-◌, ◌*◌, ◌^◌, ◌≤◌, ◌⊎◌, List, [], ◌∷◌, Option, Some, None}
use Rattle.lrat_check.specs.declared.verdict.Verdict.{Verdict}
use Rattle.lrat_check.specs.declared.verdict.Verdict.TheVariants.{Nothing}
use Rattle.event_loop.specs.declared.connection.Connection.{Connection}
use Rattle.event_loop.specs.declared.run.Run.{Run}

-- `RoseBy k old new`: a counter rose from `old` to `new` by at least `k`, or is at the greatest 64-bit number, where it stays
abbrev pub RoseBy : ℕ → ℕ → ℕ → Type 0
RoseBy k old new = (old + k ≤ new) ⊎ (2 ^ 64 - 1 ≤ new)

-- the counter of calls rose from `base` to `calls` by at least one, and by at least two if `verdict` is not `Nothing`
pub record HasBegun (base calls : ℕ) (verdict : Verdict) : Type 0 where
  pub one : RoseBy 1 base calls
  pub two : (verdict ≡ Nothing) ⊎ RoseBy 2 base calls

-- The most calls to which an event leads: 256 * 4039. The receive is one call. It brings at most 4037 bytes, so at most 4037 frames, and
-- after each at most one call sends. Then at each of 255 places a queued worker may be registered, after which at most 4038 calls send, and
-- one call may send to an idle worker. That is 1 + 4037 + 255 * 4039, one less than this.
abbrev pub calls_per_arrival : ℕ
calls_per_arrival = 1033984

-- if the counter of events rose from `old_arrivals` to `new_arrivals` by n, the counter of calls rose from `old` to `new` by at most
-- `calls_per_arrival * (n + 1)`
abbrev pub AreBounded : (old_arrivals new_arrivals old new : ℕ) → Type 0
AreBounded old_arrivals new_arrivals old new = new + calls_per_arrival * old_arrivals ≤ old + calls_per_arrival * (new_arrivals + 1)

-- 1 for a slot with a connection, 0 for an empty slot
abbrev pub one_if_open : Option Connection → ℕ
one_if_open None = 0
one_if_open (Some connection) = 1

-- `open_at slots place`: 1 if slot `place`, counted from 0, has a connection, else 0
abbrev pub open_at : List (Option Connection) → ℕ → ℕ
open_at [] place = 0
open_at (connection ∷ slots) zero = one_if_open connection
open_at (connection ∷ slots) (suc place) = open_at slots place

-- how many connections are open at each place if none is open at any: 0
abbrev pub nobody : ℕ → ℕ
nobody place = 0

-- `open_of run place`: 1 if the run has an open connection at this place, else 0
abbrev pub open_of : Run → ℕ → ℕ
open_of run = open_at run.slots.items

-- At each place, refusals and open connections, counted together, rise by at most the links that began there: a link that refused is
-- closed. `old_open` and `new_open` count open connections by place, `old_links` and `new_links` links that began, `old` and `new`
-- refusals.
abbrev pub EachCloses : (old_open new_open old_links new_links old new : ℕ → ℕ) → Type 0
EachCloses old_open new_open old_links new_links old new =
    (place : ℕ) → new place + new_open place + old_links place ≤ old place + old_open place + new_links place

-- at each place the refused calls rise from `old` to `new` by at most the links that began there, from `old_links` to `new_links`: a link
-- that refused is never called again
abbrev pub OnceEach : (old_links new_links old new : ℕ → ℕ) → Type 0
OnceEach old_links new_links old new = (place : ℕ) → new place + old_links place ≤ old place + new_links place
