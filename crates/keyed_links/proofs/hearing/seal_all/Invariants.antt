use Rattle.std.proofs.Common.{length}
use Rattle.keyed_links.proofs.SealLemmas.{SealsSoFar}
use Rattle.keyed_links.proofs.hearing.seal_all.Given as goal

abbrev pub invariant-loop-left : goal.invariant-loop-left
invariant-loop-left l = SealsSoFar l.initial.sealer l.sealer l.bytes l.left l.initial.records.items l.records.items

abbrev pub decreases-loop-left : goal.decreases-loop-left
decreases-loop-left l = length l.left
