use Rattle.std.proofs.Common.{refl, ap, sym, ◌∙◌}
use Rattle.connections.specs.Unread.{Unread}
use Rattle.connections.specs.inner.NextEvent.{Finds}
use Rattle.connections.proofs.listener.Connections.take_next.Goals as goal

pub returns-in-Some-read-clause-finds : goal.returns-in-Some-read-clause-finds
returns-in-Some-read-clause-finds g c =
    let found = c.in-Some-read.ensures.some in
    let none = ap (λ (u : Unread). u.bytes) (sym c.accept_in_turn.ensures.unread) ∙ found.0 in
    Finds.first c.in-Some-read.place c.in-Some-read.count refl none found.1
