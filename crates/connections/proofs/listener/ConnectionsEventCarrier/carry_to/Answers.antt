use Rattle.std.proofs.Common.{◌∙◌, ap, is_some}
use Rattle.connections.proofs.SlotLemmas.{kept_at}
use Rattle.connections.proofs.listener.ConnectionsEventCarrier.carry_to.Goals as goal

pub returns-clause-links : goal.returns-clause-links
returns-clause-links g c =
    kept_at c.args.self.now.slots.items c.args.place c.send.new.connection c.index_mut.result.now (c.send.ensures.links ∙ ap (λ e. is_some e) c.index_mut.ensures.value)
