use Rattle.std.proofs.Common.{◌≡◌, ◌+◌, ◌*◌, ◌≤◌, length, take, vec_capacity}
use Rattle.watches.specs.inner.WatchInvariants.{AreWatching, fresh_watches}
use Rattle.watches.proofs.watched.rebuild.link_all.Given as goal

abbrev pub invariant-loop-i : goal.invariant-loop-i
invariant-loop-i l = record {
  watching : AreWatching (fresh_watches l.places.items (take l.i l.clauses) l.base (length l.trail.entries)) l.arena l.trail;
  long : length l.places.items ≡ l.base + 2 * l.i;
  room : l.base + 2 * length l.clauses ≤ vec_capacity l.places;
}
