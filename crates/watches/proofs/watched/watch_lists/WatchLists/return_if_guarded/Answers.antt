use Rattle.std.proofs.Common.{refl, sym, ap, subst, ◌∙◌, arith}
use Rattle.dimacs.specs.logic.Literal.{IsWithin, negation, index_of}
use Rattle.watches.specs.Trails.{holds}
use Rattle.watches.specs.inner.WatchLists.{literal_at, twin, MayRelink}
use Rattle.watches.specs.inner.WatchInvariants.{watches_of}
use Rattle.watches.proofs.EntryGuardLemmas.{guarded_by}
use Rattle.watches.proofs.StepLemmas.{unmoved}
use Rattle.watches.proofs.TwinLemmas.{long_twin}
use Rattle.watches.proofs.FalseWatchLemmas as P
use Rattle.watches.proofs.PendingLemmas as K
use Rattle.watches.proofs.watched.watch_lists.WatchLists.return_if_guarded.Goals as goal

pub own_literal-own-requires : goal.own_literal-own-requires
own_literal-own-requires c = (K.here_real (watches_of c.args.self.now) c.args.arena.now c.args.trail.now c.args.previous c.args.here c.requires.walk c.requires.here_is c.requires.there).1

pub other_literal-other-requires : goal.other_literal-other-requires
other_literal-other-requires c = (long_twin (watches_of c.args.self.now) c.args.here c.requires.walk.watching.even c.requires.walk.watching.paired (K.long_here (watches_of c.args.self.now) c.args.arena.now c.args.trail.now c.args.previous c.args.here c.requires.walk c.requires.here_is c.requires.there c.requires.long)).1

pub entry_of-mine-requires : goal.entry_of-mine-requires
entry_of-mine-requires c = ap (holds c.args.trail.now.entries) c.negate.ensures ∙ ap (λ l. holds c.args.trail.now.entries (negation l)) c.own_literal-own.ensures ∙ c.requires.own_false

pub entry_of-theirs-requires : goal.entry_of-theirs-requires
entry_of-theirs-requires c = ap (holds c.args.trail.now.entries) c.other_literal-other.ensures ∙ c.requires.other_true

pub relink-requires : goal.relink-requires
relink-requires c =
    let own = c.own_literal-own.result in
    let own_in : IsWithin c.args.trail.now.vars own = subst (IsWithin c.args.trail.now.vars) (sym c.own_literal-own.ensures) (K.own_in (watches_of c.args.self.now) c.args.arena.now c.args.trail.now c.requires.walk.paths c.requires.walk.watching c.args.here (K.long_here (watches_of c.args.self.now) c.args.arena.now c.args.trail.now c.args.previous c.args.here c.requires.walk c.requires.here_is c.requires.there c.requires.long)) in
    let h = K.chain_in (watches_of c.args.self.now) c.args.arena.now c.args.trail.now c.args.previous c.args.here c.requires.walk c.requires.here_is c.requires.there (K.long_here (watches_of c.args.self.now) c.args.arena.now c.args.trail.now c.args.previous c.args.here c.requires.walk c.requires.here_is c.requires.there c.requires.long) own own_in in
    let hi = K.index_high c.args.trail.now.vars own own_in in
    let is = c.index.ensures.value in
    let re = K.here_real (watches_of c.args.self.now) c.args.arena.now c.args.trail.now c.args.previous c.args.here c.requires.walk c.requires.here_is c.requires.there in
    record {
      may = subst (MayRelink c.args.self.now.places.items c.args.self.now.base 0 c.args.previous c.args.here) (sym is) (K.may (watches_of c.args.self.now) c.args.arena.now c.args.trail.now c.args.previous c.args.here c.requires.walk c.requires.here_is c.requires.there _ h.0 hi);
      few = c.requires.few;
    }

pub returns-then-theirs-mine : goal.returns-then-theirs-mine
returns-then-theirs-mine c =
    let own = c.own_literal-own.result in
    let g = guarded_by c.args.trail.now.entries c.args.self.now.head own (literal_at c.args.self.now.places.items (twin c.args.here)) c.entry_of-mine.result c.entry_of-theirs.result c.recall.ensures.apart c.requires.walk.watching.handled
    c.entry_of-mine.ensures.member (c.entry_of-mine.ensures.literal ∙ c.negate.ensures) c.entry_of-theirs.ensures.member (c.entry_of-theirs.ensures.literal ∙ c.other_literal-other.ensures) (omega arith) in
    record {
      rest = c.relink.ensures.rest;
      visits = K.pending_moves (watches_of c.args.self.now) (watches_of c.relink.new.self) c.args.arena.now c.args.trail.now c.args.previous c.args.here c.relink.ensures.rest
          (K.goes_guarded (watches_of c.args.self.now) c.args.arena.now c.args.trail.now c.args.previous c.args.here c.requires.walk c.requires.here_is c.requires.there (K.long_here (watches_of c.args.self.now) c.args.arena.now c.args.trail.now c.args.previous c.args.here c.requires.walk c.requires.here_is c.requires.there c.requires.long) c.relink.new.self.places.items own c.index.result c.own_literal-own.ensures c.index.ensures.value g c.relink.ensures.relinks);
    }

pub returns-else-theirs-mine : goal.returns-else-theirs-mine
returns-else-theirs-mine c = record {
  rest = unmoved (watches_of c.args.self.now);
  visits = K.waits (watches_of c.args.self.now) c.args.arena.now c.args.trail.now c.args.previous c.args.here c.requires.walk c.requires.here_is c.requires.there (P.satisfied (watches_of c.args.self.now) c.args.arena.now c.args.trail.now c.requires.walk.paths c.requires.walk.watching c.args.here (K.long_here (watches_of c.args.self.now) c.args.arena.now c.args.trail.now c.args.previous c.args.here c.requires.walk c.requires.here_is c.requires.there c.requires.long) (literal_at c.args.self.now.places.items c.args.here) refl c.requires.own_false c.args.trail.now c.requires.other_true);
}
