use Rattle.std.proofs.Common.{rules, ◌≡◌, ℕ, List, take, ◌∙◌, subst}
use Rattle.commands.proofs.FeedLemmas.{fed_more}
use Rattle.commands.proofs.feed_loop.feed_on.Goals as goal

pub loop-preserved : goal.loop-preserved
loop-preserved g c =
    let P : List ℕ → Type 0 = λ bs. g.T.Feeds.took c.loop.taker c.feed.new.self (take c.in-Ok.len bs) in (
      fed_more g.T.Feeds.took g.T.Feeds.more _ _ _ _ _ _ _ c.loop.invariant.0 c.in-Ok.ensures.consumed (subst P c.deref.ensures.value c.in_ok-feed.ensures.taken),
      c.in-Ok.ensures.refusal ∙ c.loop.invariant.1,
    )
