use Rattle.std.proofs.Common.{rules, ◌<◌, length, None, Some}
use Rattle.event_loop.proofs.Places.{opened, set_fresh}
use Rattle.event_loop.proofs.RegistrationLemmas.{apart_kept, none_registered}
use Rattle.event_loop.proofs.dispatcher.insert.Goals as goal

pub returns-clause-opens : goal.returns-clause-opens
returns-clause-opens c = λ p.
    let at : c.args.place < length c.args.slots.now = search rules in
    opened c.args.slots.now c.args.place c.args.new p at

pub returns-clause-fresh : goal.returns-clause-fresh
returns-clause-fresh c = λ new fresh. set_fresh c.args.slots.now c.args.place (Some c.args.new) new fresh

pub returns-clause-apart : goal.returns-clause-apart
returns-clause-apart c = λ fresh apart.
    let at : c.args.place < length c.args.slots.now = search rules in
    apart_kept c.args.slots.now c.args.place (Some c.args.new) None at (λ worker now. absurd (none_registered c.args.new worker fresh now)) apart
