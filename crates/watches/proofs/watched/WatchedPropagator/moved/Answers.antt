use Rattle.std.proofs.Common.{◌≡◌, List, sym, ap, subst, ◌∙◌, arith}
use Rattle.std.specs.Vec.{with_items}
use Rattle.std.proofs.lemmas.List.{with_items_is}
use Rattle.clause_arena.specs.declared.reference.Ref.{Ref}
use Rattle.watches.specs.inner.MovedRefs.{AreFollowed}
use Rattle.watches.specs.ClauseNumbers.{numbers}
use Rattle.watches.specs.Watches.{Watches, attached_of}
use Rattle.watches.specs.inner.Ready.{AreWatches, IsReady}
use Rattle.watches.proofs.DetachLemmas.{attached_followed}
use Rattle.watches.proofs.MovedRefsLemmas.{numbers_followed}
use Rattle.watches.proofs.ReadyLemmas.{ready_followed, watches_followed}
use Rattle.watches.proofs.watched.WatchedPropagator.moved.Goals as goal

after : (c : goal.After-self-1) → (with_items c.self.inside.lists.clauses c.update_refs.new.clauses).items ≡ c.update_refs.new.clauses
after c = with_items_is c.self.inside.lists.clauses c.update_refs.new.clauses (omega (arith, c.update_refs.ensures.long, c.deref_mut.ensures.len))

followed : (c : goal.After-self-1) → AreFollowed c.args.moves.now c.self.inside.lists.clauses.items c.update_refs.new.clauses
followed c = subst (λ (xs : List Ref). AreFollowed c.args.moves.now xs c.update_refs.new.clauses) c.deref_mut.ensures.value c.update_refs.ensures

-- the attached clauses, followed
kept_on : (c : goal.After-self-1) → AreFollowed c.args.moves.now (attached_of c.self.inside.lists.clauses.items c.self.inside.live.items) (attached_of c.update_refs.new.clauses c.self.inside.live.items)
kept_on c = attached_followed c.args.moves.now c.self.inside.lists.clauses.items c.update_refs.new.clauses c.self.inside.live.items (followed c)

pub invariant_of-self : goal.invariant_of-self
invariant_of-self c =
    let i = c.self.inside in
    subst (λ (cs : List Ref). AreWatches i.lists.places.items cs i.live.items i.lists.base i.lists.stale) (sym (after c))
    (watches_followed i.lists.places.items i.lists.base i.lists.clauses.items c.update_refs.new.clauses i.live.items i.lists.stale c.args.moves.now (followed c) c.self.invariant)

pub returns-clause-ready : goal.returns-clause-ready
returns-clause-ready c = λ m k t h r.
    let i = c.self.inside in
    let w : Watches = record { places = i.lists.places.items; clauses = attached_of i.lists.clauses.items i.live.items; base = i.lists.base; head = i.lists.head; stale = i.lists.stale } in
    subst (λ (cs : List Ref). IsReady (record w { clauses = attached_of cs i.live.items }) k t) (sym (after c))
    (ready_followed w (attached_of c.update_refs.new.clauses i.live.items) c.args.moves.now (kept_on c) m k t h (subst (λ (x : Watches). IsReady x m t) (sym c.self.view_is) r))

pub returns-clause-attached : goal.returns-clause-attached
returns-clause-attached c = λ m k h.
    let i = c.self.inside in
    ap (λ (cs : List Ref). numbers (attached_of cs i.live.items)) (after c) ∙ numbers_followed c.args.moves.now (attached_of i.lists.clauses.items i.live.items) (attached_of c.update_refs.new.clauses i.live.items) (kept_on c)
    ∙ ap (λ (w : Watches). numbers w.clauses) c.self.view_is
