use Rattle.std.proofs.Common.{rules, ◌≡◌, ◌∙◌, ◌++◌, ◌∷◌, [], None}
use Rattle.event_loop.proofs.Places.{pushed, pushed_fresh}
use Rattle.event_loop.proofs.RegistrationLemmas.{apart_pushed, connection_pushed}
use Rattle.event_loop.proofs.dispatcher.grow_to.Goals as goal

pub loop-preserved : goal.loop-preserved
loop-preserved c =
    let more : c.push.new.self.items ≡ c.loop.slots.items ++ None ∷ [] = search rules in (
      λ p. rw more (pushed c.loop.slots.items p ∙ c.loop.invariant.0 p),
      λ fresh. rw more (pushed_fresh c.loop.slots.items (c.loop.invariant.1 fresh)),
      λ apart. rw more (apart_pushed c.loop.slots.items (c.loop.invariant.2 apart)),
      λ p. rw more (connection_pushed c.loop.slots.items p ∙ c.loop.invariant.3 p),
    )
