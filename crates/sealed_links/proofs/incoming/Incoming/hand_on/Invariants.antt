use Rattle.std.proofs.Common.{◌-◌, length}
use Rattle.sealed_links.specs.inner.HandsOn.{HandsOnTo}
use Rattle.sealed_links.proofs.incoming.Incoming.hand_on.Given as goal

abbrev pub invariant-records : goal.invariant-records
invariant-records l = HandsOnTo l.initial.self l.self l.initial.out.items l.out.items l.at

abbrev pub decreases-records : goal.decreases-records
decreases-records l = length l.self.held.items - l.at
