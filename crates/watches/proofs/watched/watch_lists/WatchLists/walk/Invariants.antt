use Rattle.watches.specs.inner.WatchInvariants.{watches_of}
use Rattle.watches.specs.inner.ListWalk.{IsWalk, IsStep, left_behind}
use Rattle.watches.proofs.watched.watch_lists.WatchLists.walk.Given as goal

abbrev pub invariant-watch_list : goal.invariant-watch_list
invariant-watch_list l = record {
  walk : IsWalk (watches_of l.self) l.arena l.trail l.previous;
  step : IsStep (watches_of l.fn.self) (watches_of l.self) l.fn.arena l.arena l.fn.trail l.trail;
}

abbrev pub decreases-watch_list : goal.decreases-watch_list
decreases-watch_list l = left_behind l.self.places.items l.previous
