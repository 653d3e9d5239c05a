use Rattle.std.proofs.Common.{sym, subst}
use Rattle.clause_arena.specs.Clauses.{RefersTo}
use Rattle.watches.specs.inner.WatchInvariants.{watches_of}
use Rattle.watches.proofs.PendingLemmas as K
use Rattle.watches.proofs.watched.watch_lists.WatchLists.visit_pending.Goals as goal

pub owner_of-clause-requires-clause-low : goal.owner_of-clause-requires-clause-low
owner_of-clause-requires-clause-low c = (K.here_real (watches_of c.args.self.now) c.args.arena.now c.args.trail.now c.args.previous c.args.here c.requires.walk c.requires.here_is c.requires.there).0

pub owner_of-clause-requires-clause-within : goal.owner_of-clause-requires-clause-within
owner_of-clause-requires-clause-within c = K.owner_in (watches_of c.args.self.now) c.args.arena.now c.args.trail.now c.args.previous c.args.here c.requires.walk c.requires.here_is c.requires.there

pub clause-requires : goal.clause-requires
clause-requires c = let s = K.pending_here (watches_of c.args.self.now) c.args.arena.now c.args.trail.now c.args.previous c.args.here c.requires.walk c.requires.here_is c.requires.there in record { live = (s.0, subst (λ a. RefersTo c.args.arena.now a s.0) (sym c.owner_of-clause.ensures) s.1) }
