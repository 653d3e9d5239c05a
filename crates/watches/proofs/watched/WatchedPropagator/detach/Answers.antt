use Rattle.std.proofs.Common.{◌≡◌, ◌<◌, true, false, Bool, List, length, get_or, set, sym, ap, subst, ◌∙◌, arith}
use Rattle.std.proofs.lemmas.Bool.{false≢true}
use Rattle.clause_arena.specs.declared.reference.Ref.{Ref}
use Rattle.watches.specs.Law.{AreWithout}
use Rattle.watches.specs.ClauseNumbers.{numbers}
use Rattle.watches.specs.inner.LiveClauses.{IsLiveWithin}
use Rattle.watches.specs.inner.WatchInvariants.{no_clause}
use Rattle.watches.specs.Watches.{Watches, attached_of}
use Rattle.watches.specs.inner.Ready.{IsReady}
use Rattle.watches.proofs.ReadyLemmas.{watches_marked, all_marked, without_marked}
use Rattle.watches.proofs.watched.WatchedPropagator.detach.Goals as goal

inside : (c : goal.After-self-in-Some-1) → c.in-Some.i < length c.self.inside.lists.clauses.items
inside c = omega (arith, c.in-Some.ensures.some.0, ap length c.deref.ensures.value)

live : (c : goal.After-self-in-Some-1) → get_or c.self.inside.live.items c.in-Some.i false ≡ true
live c = ap (λ (ms : List Bool). get_or ms c.in-Some.i false) (sym c.deref-2.ensures.value) ∙ c.in-Some.ensures.some.2

pub invariant_of-self : goal.invariant_of-self
invariant_of-self c = let i = c.self.inside in watches_marked i.lists.places.items i.lists.clauses.items i.live.items i.lists.base i.lists.stale c.self.invariant c.in-Some.i (inside c) (live c)

pub returns-in-Some-clause-ready : goal.returns-in-Some-clause-ready
returns-in-Some-clause-ready c = λ t h.
    let i = c.self.inside in
    let w : Watches = record { places = i.lists.places.items; clauses = attached_of i.lists.clauses.items i.live.items; base = i.lists.base; head = i.lists.head; stale = i.lists.stale } in
    let r = subst (λ (x : Watches). IsReady x c.args._arena.now t) (sym c.self.view_is) h in
    record {
      wide = r.wide;
      here = all_marked i.lists.places.items i.lists.clauses.items i.live.items i.lists.base i.lists.stale c.self.invariant c.in-Some.i (inside c) (live c) (IsLiveWithin c.args._arena.now t.vars) r.here;
      watching = λ e. absurd (false≢true (sym e));
    }

pub returns-in-Some-clause-attached : goal.returns-in-Some-clause-attached
returns-in-Some-clause-attached c =
    let i = c.self.inside in
    let is : (get_or i.lists.clauses.items c.in-Some.i no_clause).number ≡ c.args.at.number = ap (λ (xs : List Ref). (get_or xs c.in-Some.i no_clause).number) (sym c.deref.ensures.value) ∙ c.in-Some.ensures.some.1 ∙ c.number.ensures in
    subst (λ (x : Watches). AreWithout (numbers x.clauses) c.args.at.number (numbers (attached_of i.lists.clauses.items (set i.live.items c.in-Some.i false)))) c.self.view_is
    (without_marked i.lists.places.items i.lists.clauses.items i.live.items i.lists.base i.lists.stale c.self.invariant c.in-Some.i (inside c) (live c) c.args.at.number is)
