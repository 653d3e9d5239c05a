-- Why a run ends, and how its verdict is handed out.
use Rattle.std.specs.Prelude.{◌≡◌, ◌≤◌, ◌+◌, ◌-◌, ◌^◌, ℕ, Bool, true, false, Option, Some, None, is_some, nat_le}
use Rattle.std.specs.List.{list_any}
use Rattle.lrat_check.specs.declared.verdict.Verdict.{Verdict}
use Rattle.lrat_check.specs.declared.verdict.Verdict.TheVariants.{Nothing, Model, Proof}
use Rattle.event_loop.specs.Accounts.{RoseBy}
use Rattle.event_loop.specs.Run.{verdict_of}
use Rattle.event_loop.specs.declared.run.Run.{Run}

-- this is a verdict, and not `Nothing`
abbrev pub is_decided : Verdict → Bool
is_decided Nothing = false
is_decided (Model values) = true
is_decided (Proof text) = true

-- the run has an open connection
abbrev pub has_link : Run → Bool
has_link run = list_any (λ connection. is_some connection) run.slots.items

-- `is_deserted_by timeout linked is_open tick`: no connection is open, and none was for at least the ticks of the timeout, up to `tick`.
-- `linked` is the last tick at which one was open. False if there is no timeout, or before the first tick.
abbrev pub is_deserted_by : Option ℕ → Option ℕ → Bool → ℕ → Bool
is_deserted_by None linked is_open tick = false
is_deserted_by (Some ticks) None is_open tick = false
is_deserted_by (Some ticks) (Some linked) true tick = false
is_deserted_by (Some ticks) (Some linked) false tick = nat_le ticks (tick - linked)

-- the run has no open connection, and had none for as many ticks as a task may take
abbrev pub is_deserted : Run → Bool
is_deserted run = is_deserted_by run.dispatcher.patience.ticks run.linked (has_link run) run.tick

-- Why a run has ended that began at the count `before` of events and ended at the count `after`. `is_at_end` tells that no event can come
-- any more.
pub data HasEnded (before after : ℕ) (is_at_end : Bool) (run : Run) : Type 0 where
  -- a verdict is held
  decided : is_decided (verdict_of run) ≡ true → HasEnded before after is_at_end run
  -- the coordinator is stuck: it will hold no verdict
  stuck : run.dispatcher.coordinator.stuck ≡ true → HasEnded before after is_at_end run
  -- no event can come any more
  over : is_at_end ≡ true → HasEnded before after is_at_end run
  -- no connection was open for as many ticks as a task may take
  deserted : is_deserted run ≡ true → HasEnded before after is_at_end run
  -- the run has handled 2^63 events
  full : before + 2 ^ 63 ≤ after → HasEnded before after is_at_end run

-- Why the handing out of a verdict has ended that began at the count `before` of events and ended at the count `after`. `is_at_end` tells
-- that no event can come any more.
pub data HandoutEnded (before after : ℕ) (is_at_end : Bool) (run : Run) : Type 0 where
  -- no connection is open
  nobody : has_link run ≡ false → HandoutEnded before after is_at_end run
  -- no event can come any more
  over : is_at_end ≡ true → HandoutEnded before after is_at_end run
  -- 2^63 events were handled
  full : before + 2 ^ 63 ≤ after → HandoutEnded before after is_at_end run

-- How a verdict is handed out by a run that is `old` before and `new` after, with the counts of calls and of events before and after.
pub data HandsOut (old : Run) (calls_before calls_after before after : ℕ) (is_at_end : Bool) (new : Run) : Type 0 where
  -- no verdict is held: no call is made
  nothing : is_decided (verdict_of old) ≡ false → calls_after ≡ calls_before → HandsOut old calls_before calls_after before after is_at_end new
  -- no connection is open: no call is made
  nobody : has_link old ≡ false → calls_after ≡ calls_before → HandsOut old calls_before calls_after before after is_at_end new
  -- events are received, until there is a reason to end
  listens : RoseBy 1 calls_before calls_after → HandoutEnded before after is_at_end new → HandsOut old calls_before calls_after before after is_at_end new
