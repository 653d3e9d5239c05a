use Rattle.std.proofs.Common.{◌≡◌, take}
use Rattle.dimacs.specs.logic.Literal.{has}
use Rattle.sessions.specs.inner.Sets.{set_in}
use Rattle.sessions.proofs.literal_set.LiteralSet.hold.Given as goal

abbrev pub invariant-loop-l : goal.invariant-loop-l
invariant-loop-l l = set_in l.self.stamps.items l.self.stamp ≡ has (take l.l-index l.lits)
