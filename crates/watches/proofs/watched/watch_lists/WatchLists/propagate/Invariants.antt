use Rattle.std.proofs.Common.{◌-◌}
use Rattle.watches.specs.inner.WatchInvariants.{watches_of, AreWatching}
use Rattle.watches.specs.inner.ListWalk.{HasPropagated}
use Rattle.watches.proofs.watched.watch_lists.WatchLists.propagate.Given as goal

abbrev pub invariant-entries : goal.invariant-entries
invariant-entries l = record {
  ready : AreWatching (watches_of l.self) l.arena l.trail;
  propagated : HasPropagated (watches_of l.fn.self) (watches_of l.self) l.fn.arena l.arena l.fn.trail l.trail;
}

abbrev pub decreases-entries : goal.decreases-entries
decreases-entries l = l.trail.vars - l.self.head
