use Rattle.std.proofs.Common.{◌≡◌, ℕ, ◌%◌, List, length, sym, ap, subst, ◌∙◌, arith}
use Rattle.std.specs.List.{All}
use Rattle.std.specs.Option.{IfSome, IfNone}
use Rattle.clause_arena.specs.declared.reference.Ref.{Ref}
use Rattle.clause_arena.specs.Clauses.{live_of}
use Rattle.watches.specs.Law.{Grows, IsConflict, IsFixpoint, live_among}
use Rattle.watches.specs.ClauseNumbers.{numbers}
use Rattle.watches.specs.inner.LiveClauses.{IsLiveWithin}
use Rattle.watches.specs.inner.WatchInvariants.{watches_of, AreWatching}
use Rattle.watches.specs.Watches.{Watches, attached_of}
use Rattle.watches.specs.inner.Ready.{AreNamed}
use Rattle.watches.proofs.DetachLemmas.{all_attached}
use Rattle.watches.proofs.WatchListLemmas.{pending_last}
use Rattle.watches.proofs.watched.WatchedPropagator.propagate.Goals as goal

-- what the clauses are, and are called
clauses_then : (c : goal.After-propagate) → c.propagate.new.self.clauses.items ≡ c.rebuild.new.self.clauses.items
clauses_then c = ap (λ (W : Watches). W.clauses) c.propagate.ensures.propagated.rest

was : (c : goal.After-propagate) → attached_of c.self.inside.lists.clauses.items c.self.inside.live.items ≡ c.args.self.now.clauses
was c = ap (λ (W : Watches). W.clauses) c.self.view_is

all : (c : goal.After-propagate) → attached_of c.propagate.new.self.clauses.items c.rebuild.new.live.items ≡ c.propagate.new.self.clauses.items
all c = all_attached c.propagate.new.self.clauses.items c.rebuild.new.live.items (c.rebuild.ensures.marked ∙ ap length (sym (clauses_then c))) c.rebuild.ensures.live

attached : (c : goal.After-propagate) → numbers c.rebuild.new.self.clauses.items ≡ numbers c.args.self.now.clauses
attached c = ap numbers (c.rebuild.ensures.clauses ∙ was c)

pub rebuild-requires-clause-here : goal.rebuild-requires-clause-here
rebuild-requires-clause-here c = subst (All (IsLiveWithin c.args.arena.now c.args.trail.now.vars)) (sym (ap (λ (W : Watches). W.clauses) c.self.view_is)) c.requires.here

pub propagate-requires-clause-few : goal.propagate-requires-clause-few
propagate-requires-clause-few c = omega (arith, c.rebuild.ensures.no_more, c.self.invariant.few)

pub invariant_of-self : goal.invariant_of-self
invariant_of-self c =
    let h = c.self.invariant in
    let r = c.rebuild.ensures in
    let p = c.propagate.ensures.propagated in
    let base : c.self.inside.lists.base ≡ c.propagate.new.self.base = sym (ap (λ (W : Watches). W.base) p.rest ∙ r.base) in
    record {
      whole = omega (arith, p.long, ap length (clauses_then c), base, r.base, r.whole);
      few = omega (arith, p.long, r.no_more, h.few);
      even = subst (λ n. n % 2 ≡ 0) base h.even;
      last = λ _.
          let w = c.propagate.ensures.ready.1 in
          pending_last c.propagate.new.self.places.items c.propagate.new.self.base c.propagate.ensures.ready.0 w.lists w.low (let a = w.wide in omega arith);
      marked = r.marked ∙ ap length (sym (clauses_then c));
      named = subst AreNamed (sym (all c ∙ clauses_then c ∙ r.clauses)) h.named;
      none_gone = λ _. r.live;
    }

pub returns-clause-attached : goal.returns-clause-attached
returns-clause-attached c = ap numbers (all c ∙ clauses_then c) ∙ attached c

pub returns-clause-clauses : goal.returns-clause-clauses
returns-clause-clauses c = c.propagate.ensures.propagated.same

pub returns-clause-trail : goal.returns-clause-trail
returns-clause-trail c = subst (λ (ns : List ℕ). Grows (live_among ns (live_of c.args.arena.now)) c.args.trail.now c.propagate.new.trail) (attached c) c.propagate.ensures.propagated.grows

pub returns-clause-ready : goal.returns-clause-ready
returns-clause-ready c =
    let new = c.propagate.new in
    let ready = subst (λ (cs : List Ref). AreWatching (record (watches_of new.self) { clauses = cs }) new.arena new.trail) (sym (all c)) c.propagate.ensures.ready in
    record {
      wide = ready.1.wide;
      here = ready.1.here;
      watching = λ _. ready;
    }

pub returns-clause-conflict : goal.returns-clause-conflict
returns-clause-conflict c =
    let new = c.propagate.new in
    subst (λ (ns : List ℕ). IfSome c.propagate.result (IsConflict (live_among ns (live_of new.arena)) new.trail.entries)) (ap numbers (clauses_then c) ∙ attached c) c.propagate.ensures.conflict

pub returns-clause-quiet : goal.returns-clause-quiet
returns-clause-quiet c =
    let new = c.propagate.new in
    subst (λ (ns : List ℕ). IfNone c.propagate.result (IsFixpoint (live_among ns (live_of new.arena)) new.trail.entries)) (ap numbers (clauses_then c) ∙ attached c) c.propagate.ensures.quiet
