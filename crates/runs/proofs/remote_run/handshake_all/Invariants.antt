use Rattle.std.proofs.Common.{◌≡◌, ◌*◌, ◌⊎◌, All, drop, length}
use Rattle.runs.specs.Accounts.{RoseBy}
use Rattle.runs.specs.inner.Accounts.{GoesOn, RoseWithin}
use Rattle.runs.specs.inner.Connections.{Closing, IsNew}
use Rattle.runs.proofs.remote_run.handshake_all.Given as goal

abbrev pub invariant-loop-i : goal.invariant-loop-i
invariant-loop-i g l = record {
  goes_on : GoesOn l.fn.coordinator l.coordinator;
  verdict : l.coordinator.verdict ≡ l.fn.coordinator.verdict;
  connections : length l.connections ≡ length l.fn.connections;
  new : All IsNew (drop l.i l.connections);
  calls : RoseWithin l.i (4037 * l.i) (g.L.Links.call_count l.fn.links) (g.L.Links.call_count l.links);
  refusals : Closing g.L.Links.refusal_count g.L.Links.refused_at l.fn.links l.links l.fn.connections l.connections;
}
