use Rattle.std.proofs.Common.{ℕ, List, ◌*◌, take, ◌∙◌, subst}
use Rattle.commands.proofs.WritingLemmas.{front_more}
use Rattle.commands.proofs.feed_loop.feed_packed.Goals as goal

pub loop-i-preserved : goal.loop-i-preserved
loop-i-preserved g c =
    let P : List ℕ → Type 0 = λ t. g.T.Feeds.took c.args.taker.now c.feed.new.self t in
    let front = take (65536 * c.loop-i.i) c.args.text.now in
    subst P (front_more c.loop-i.i c.args.text.now _ (c.as_slice.ensures.value ∙ c.in-Ok.ensures))
    (g.T.Feeds.more _ _ _ front _ c.loop-i.invariant c.in_ok-feed.ensures.taken)
