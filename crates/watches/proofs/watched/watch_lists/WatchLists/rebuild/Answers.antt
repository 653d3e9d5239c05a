use Rattle.std.proofs.Common.{◌≡◌, List, length, sym, ap, subst, ◌∙◌, arith}
use Rattle.std.specs.List.{All}
use Rattle.clause_arena.specs.declared.reference.Ref.{Ref}
use Rattle.watches.specs.inner.LiveClauses.{IsLiveWithin}
use Rattle.watches.specs.inner.WatchInvariants.{watches_of, AreWatching}
use Rattle.watches.specs.Watches.{attached_of}
use Rattle.watches.proofs.DetachLemmas.{all_attached, attached_fewer}
use Rattle.watches.proofs.watched.watch_lists.WatchLists.rebuild.Goals as goal

all : (c : goal.Then-not-self) → attached_of c.args.self.now.clauses.items c.args.live.now.items ≡ c.args.self.now.clauses.items
all c = let w = c.requires.watches in all_attached c.args.self.now.clauses.items c.args.live.now.items w.marked (w.none_gone c.if-not-self.true)

pub returns-then-not-self-clause-clauses : goal.returns-then-not-self-clause-clauses
returns-then-not-self-clause-clauses c = sym (all c)

pub returns-then-not-self-clause-watching : goal.returns-then-not-self-clause-watching
returns-then-not-self-clause-watching c =
    let x = c.requires.watching c.if-not-self.true in
    subst (λ (cs : List Ref). AreWatching (record (watches_of c.args.self.now) { clauses = cs }) c.args.arena.now c.args.trail.now) (all c) x

pub link_all-requires-clause-room : goal.link_all-requires-clause-room
link_all-requires-clause-room c =
    let w = c.requires.watches in
    omega (arith, c.args.self.now.places.ok.0, c.args.self.now.places.ok.1, w.whole, attached_fewer c.args.self.now.clauses.items c.args.live.now.items, ap length c.remove_detached.ensures.clauses, ap length c.deref-2.ensures.value)

pub link_all-requires-clause-few : goal.link_all-requires-clause-few
link_all-requires-clause-few c =
    let w = c.requires.watches in
    omega (arith, w.whole, w.few, attached_fewer c.args.self.now.clauses.items c.args.live.now.items, ap length c.remove_detached.ensures.clauses, ap length c.deref-2.ensures.value)

pub link_all-requires-clause-here : goal.link_all-requires-clause-here
link_all-requires-clause-here c = subst (All (IsLiveWithin c.args.arena.now c.args.trail.now.vars)) (sym (c.deref-2.ensures.value ∙ c.remove_detached.ensures.clauses)) c.requires.here

pub returns-clause-no_more : goal.returns-clause-no_more
returns-clause-no_more c =
    let w = c.requires.watches in
    omega (arith, w.whole, attached_fewer c.args.self.now.clauses.items c.args.live.now.items, ap length c.remove_detached.ensures.clauses, ap length c.deref-2.ensures.value, c.link_all.ensures.whole)
