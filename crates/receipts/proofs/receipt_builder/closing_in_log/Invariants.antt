use Rattle.std.proofs.Common.{◌+◌, ◌-◌, List, []}
use Rattle.log_join.specs.JoinedLogs.{live_from}
use Rattle.icnf.specs.Leaves.{Cube}
use Rattle.receipts.specs.Coverage.{HasTakenClauses}
use Rattle.receipts.specs.inner.KeptLemmas.{HasTakenLemmas}
use Rattle.receipts.proofs.receipt_builder.closing_in_log.Given as goal

abbrev pub invariant-loop-number : goal.invariant-loop-number
invariant-loop-number l =
    (cubes : List Cube) → HasTakenClauses cubes [] l.initial.coverage
    → HasTakenLemmas cubes (live_from (λ n. n) l.checker.live (l.checker.base + 1) (l.number - (l.checker.base + 1))) l.coverage l.closing.items
