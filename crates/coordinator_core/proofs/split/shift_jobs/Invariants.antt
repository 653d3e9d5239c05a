use Rattle.std.proofs.Common.{◌≡◌, vec_len}
use Rattle.coordinator_core.specs.Splits.{shifted_job}
use Rattle.coordinator_core.proofs.SplitLemmas.{walked}
use Rattle.coordinator_core.proofs.split.shift_jobs.Given as goal

-- the jobs so far are updated, the others are unchanged
abbrev pub invariant-loop-i : goal.invariant-loop-i
invariant-loop-i l = record { changed : l.jobs.items ≡ walked (shifted_job l.leaf) l.fn.jobs.items l.i; size : vec_len l.jobs ≡ vec_len l.fn.jobs }
