use Rattle.std.proofs.Common.{◌∙◌, ap, arith, subst, sym}
use Rattle.std.proofs.lemmas.List.{with_items_is}
use Rattle.event_loop.specs.Accounts.{open_at}
use Rattle.event_loop.specs.inner.Connections.{AreFresh}
use Rattle.event_loop.specs.inner.Registrations.{AreApart, connection_at}
use Rattle.event_loop.proofs.RegistrationLemmas.{connection_there}
use Rattle.event_loop.proofs.run.Run.add_connection.Goals as goal

pub returns-clause-opens : goal.returns-clause-opens
returns-clause-opens c p =
    let items = with_items_is c.grow_to.new.slots c.insert.new.slots (omega (arith, c.insert.auto.slots, c.deref_mut.ensures.len)) in
    let left = ap (λ slots. open_at slots p) items in
    let reached = ap (λ slots. open_at slots p) c.deref_mut.ensures.value in
    let same = c.in_ok-grow_to.ensures.open p in
    let opens = c.insert.ensures.opens p in
    omega (arith, left, reached, same, opens)

pub returns-clause-fresh : goal.returns-clause-fresh
returns-clause-fresh c fresh =
    let items = with_items_is c.grow_to.new.slots c.insert.new.slots (omega (arith, c.insert.auto.slots, c.deref_mut.ensures.len)) in
    let reached = subst AreFresh (sym c.deref_mut.ensures.value) (c.in_ok-grow_to.ensures.fresh fresh) in
    subst AreFresh (sym items) (c.insert.ensures.fresh c.in_ok-connection.ensures.fresh reached)

pub returns-clause-apart : goal.returns-clause-apart
returns-clause-apart c apart =
    let items = with_items_is c.grow_to.new.slots c.insert.new.slots (omega (arith, c.insert.auto.slots, c.deref_mut.ensures.len)) in
    let reached = subst AreApart (sym c.deref_mut.ensures.value) (c.in_ok-grow_to.ensures.apart apart) in
    subst AreApart (sym items) (c.insert.ensures.apart c.in_ok-connection.ensures.fresh reached)

pub returns-clause-elsewhere : goal.returns-clause-elsewhere
returns-clause-elsewhere c p other =
    let items = with_items_is c.grow_to.new.slots c.insert.new.slots (omega (arith, c.insert.auto.slots, c.deref_mut.ensures.len)) in
    let set = ap (λ slots. connection_at slots p) (items ∙ c.insert.ensures.placed) in
    let reached = ap (λ slots. connection_at slots p) c.deref_mut.ensures.value in
    set ∙ (connection_there c.deref_mut.result.now c.args.place p _ other ∙ (reached ∙ c.in_ok-grow_to.ensures.places p))
