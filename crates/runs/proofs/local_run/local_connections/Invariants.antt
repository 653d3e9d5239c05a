use Rattle.std.proofs.Common.{◌≡◌, All, length}
use Rattle.runs.specs.inner.Connections.{IsUntouched}
use Rattle.runs.specs.inner.LocalWorkers.{fewest}
use Rattle.runs.proofs.local_run.local_connections.Given as goal

abbrev pub invariant-loop-i : goal.invariant-loop-i
invariant-loop-i l = record {
  count : length l.local_connections.items ≡ l.i;
  untouched : All (IsUntouched fewest) l.local_connections.items;
}
