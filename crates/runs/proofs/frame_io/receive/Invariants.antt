use Rattle.std.proofs.Common.{◌≡◌, ◌⊎◌}
use Rattle.links.specs.Ends.{link_of}
use Rattle.runs.specs.Accounts.{RoseBy}
use Rattle.runs.specs.inner.Accounts.{Refuses, RoseWithin}
use Rattle.runs.proofs.frame_io.receive.Given as goal

abbrev pub invariant-loop : goal.invariant-loop
invariant-loop g l = record {
  calls : RoseWithin 0 l.counter (g.L.Links.call_count l.fn.links) (g.L.Links.call_count l.links);
  first : ((l.counter ≡ 0) × (l.inbox.waiting.items ≡ l.fn.inbox.waiting.items)) ⊎ RoseBy 1 (g.L.Links.call_count l.fn.links) (g.L.Links.call_count l.links);
  refusals : Refuses g.L.Links.refusal_count g.L.Links.refused_at (link_of l.fn.at) 0 0 l.fn.links l.links;
}
