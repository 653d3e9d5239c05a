use Rattle.std.proofs.Common.{◌≡◌, ◌∙◌, List, Option, ap, length, subst}
use Rattle.frames.specs.declared.frame.Frame.{Frame}
use Rattle.honest_cluster.specs.declared.event.ClosedEvent.{ClosedEvent}
use Rattle.node_main.specs.DrillSchedule.{Occurs, drawn_event, next_after}
use Rattle.node_main.specs.inner.Tallies.{counted}
use Rattle.node_main.proofs.TallyLemmas.{turn_is}
use Rattle.node_main.proofs.commands.drill.tally.Tally.take.Goals as goal

pub returns-clause-taken : goal.returns-clause-taken
returns-clause-taken c old tally at =
    let s = c.args.cluster.now in
    let t = c.args.self.now in
    let event : c.drawn_event-event.result ≡ drawn_event c.args.words.now (length s.frames) t.next =
    c.drawn_event-event.ensures ∙ ap (λ (fs : List Frame). drawn_event c.args.words.now (length fs) t.next) c.frames.ensures
    in
    turn_is old c.args.words.now t _ s c.react.new.cluster c.in-Ok.answer c.is_refusal.result c.kinds_of-kinds.result tally at
    (subst (λ (e : Option ClosedEvent). Occurs s e c.in-Ok.answer c.react.new.cluster) event c.in-Ok.ensures.occurs) c.is_refusal.ensures c.kinds_of-kinds.ensures
    (c.next_after-self.ensures ∙ ap (λ (e : Option ClosedEvent). next_after e t.next) event) c.and-self.ensures c.counted-self.ensures
    (c.counted-self-2.ensures ∙ ap (counted t.disagreements) c.are_at_odds.ensures)
