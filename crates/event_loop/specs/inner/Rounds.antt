-- When a run plays no further round.
use Rattle.std.specs.Prelude.{◌||◌, Bool}
use Rattle.event_loop.specs.Ending.{is_decided}
use Rattle.event_loop.specs.Run.{verdict_of}
use Rattle.event_loop.specs.declared.run.Run.{Run}

-- the run holds a verdict, or its coordinator is stuck, so that none will be held
abbrev pub is_over : Run → Bool
is_over run = is_decided (verdict_of run) || run.dispatcher.coordinator.stuck
