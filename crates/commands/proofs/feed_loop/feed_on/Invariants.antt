use Rattle.std.proofs.Common.{◌≡◌}
use Rattle.commands.specs.inner.Feed.{HasFed}
use Rattle.commands.proofs.feed_loop.feed_on.Given as goal

abbrev pub invariant-loop : goal.invariant-loop
invariant-loop g l =
    HasFed g.T.Feeds.took (g.S.Read.remaining l.initial.pieces.source) (g.S.Read.remaining l.pieces.source) l.initial.taker l.taker
    × (l.pieces.refusal ≡ l.initial.pieces.refusal)
