use Rattle.std.proofs.Common.{◌*◌, take}
use Rattle.commands.proofs.feed_loop.feed_packed.Given as goal

-- what was fed is a front of the text
abbrev pub invariant-loop-i : goal.invariant-loop-i
invariant-loop-i g l = g.T.Feeds.took l.initial.taker l.taker (take (65536 * l.i) l.text)
