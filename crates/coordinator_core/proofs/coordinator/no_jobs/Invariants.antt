use Rattle.std.proofs.Common.{◌≡◌, None}
use Rattle.std.specs.Prelude.{replicate}
use Rattle.coordinator_core.proofs.coordinator.no_jobs.Given as goal

-- the slots so far
abbrev pub invariant-loop : goal.invariant-loop
invariant-loop l = l.jobs.items ≡ replicate l.counter None
