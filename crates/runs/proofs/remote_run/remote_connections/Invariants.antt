use Rattle.std.proofs.Common.{◌≡◌, All, length}
use Rattle.runs.specs.inner.Connections.{IsNew}
use Rattle.runs.proofs.remote_run.remote_connections.Given as goal

abbrev pub invariant-loop : goal.invariant-loop
invariant-loop l = record {
  count : length l.connections.items ≡ l.counter;
  new : All IsNew l.connections.items;
}
