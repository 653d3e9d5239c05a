use Rattle.watches.specs.inner.WatchInvariants.{watches_of, AreWatching, IsRelinked}
use Rattle.watches.specs.inner.ListWalk.{left_behind}
use Rattle.watches.proofs.watched.watch_lists.WatchLists.make_pending.Given as goal

abbrev pub invariant-watch_list : goal.invariant-watch_list
invariant-watch_list l = record {
  ready : AreWatching (watches_of l.self) l.arena l.trail;
  rest : IsRelinked (watches_of l.fn.self) (watches_of l.self);
}

abbrev pub decreases-watch_list : goal.decreases-watch_list
decreases-watch_list l = left_behind l.self.places.items l.first
