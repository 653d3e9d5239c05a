use Rattle.std.proofs.Common.{rules, ◌∙◌, ◌<◌, length}
use Rattle.event_loop.proofs.Places.{same_at}
use Rattle.event_loop.proofs.RegistrationLemmas.{apart_kept}
use Rattle.event_loop.proofs.dispatcher.restart_timeouts.Goals as goal

pub loop-place-preserved : goal.loop-place-preserved
loop-place-preserved c =
    let at : c.loop-place.place < length c.loop-place.slots = search rules in (
      search rules,
      λ p. same_at c.loop-place.slots c.loop-place.place c.restart_one_timeout.new.connection c.index-slots-place.result p at c.restart_one_timeout.ensures.open ∙ c.loop-place.invariant.1 p,
      λ apart. apart_kept c.loop-place.slots c.loop-place.place c.restart_one_timeout.new.connection c.index-slots-place.result at c.restart_one_timeout.ensures.owner (c.loop-place.invariant.2 apart),
    )
