use Rattle.std.proofs.Common.{◌≡◌, ◌/◌, ◌≤◌, [], List, length, get_or, take, sym, ap, subst, ◌∙◌, arith}
use Rattle.std.specs.List.{IsDistinct}
use Rattle.std.proofs.lemmas.List.{take_more, take_all, get_or-take, length-take-le}
use Rattle.dimacs.specs.logic.Literal.{Literal, Clause, same}
use Rattle.clause_arena.specs.declared.reference.Ref.{Ref}
use Rattle.watches.specs.inner.WatchInvariants.{AreWatching, fresh_watches, no_clause}
use Rattle.watches.proofs.AttachLemmas.{appends, some_watching}
use Rattle.watches.proofs.ReadyLemmas.{nothing_watched}
use Rattle.watches.proofs.WatchListLemmas.{pending_last, link_apart}
use Rattle.watches.specs.inner.WatchLists.{next_of}
use Rattle.watches.proofs.watched.rebuild.link_all.Goals as goal

pub loop-i-init : goal.loop-i-init
loop-i-init c =
    record {
      watching = ((λ _. []), nothing_watched c.put_cells.new.places.items c.args.base c.args.arena.now c.args.trail.now c.requires.wide c.requires.even (let a = c.requires.even in omega (arith, c.put_cells.ensures.long)) c.put_cells.ensures.heads c.put_cells.ensures.lasts);
      long = let a = c.requires.even in omega (arith, c.put_cells.ensures.long);
      room = omega (arith, c.put_cells.ensures.room, c.clear.ensures.capacity, c.requires.room);
    }

pub clause-requires : goal.clause-requires
clause-requires c = let h = c.requires.here c.loop-i.i no_clause c.loop-i-test.true in record { live = (h.0, h.1) }

pub append-requires : goal.append-requires
append-requires c =
    let l = c.loop-i-test.true in
    let long = c.loop-i.invariant.long in
    let w = c.loop-i.invariant.watching.1 in
    let last = pending_last c.loop-i.places.items c.args.base c.loop-i.invariant.watching.0 w.lists w.low (let a = c.requires.wide in omega arith) in
    record {
      room = omega (arith, c.loop-i.invariant.room);
      some = omega (arith, c.requires.wide);
      last = last.1;
      apart = link_apart c.args.base (next_of c.loop-i.places.items (c.args.base / 2)) (let a = c.requires.wide in omega arith) last.0;
      small = omega (arith, c.requires.few);
    }

pub loop-i-preserved : goal.loop-i-preserved
loop-i-preserved c =
    let i = c.loop-i.i in
    let clauses = c.args.clauses.now in
    let l = c.loop-i-test.true in
    let old = c.loop-i.invariant in
    let at = get_or clauses i no_clause in
    let h = c.requires.here i no_clause l in
    let words = c.clause.ensures.literals h.0 h.1 in
    let n : length (take i clauses) ≡ i = length-take-le i clauses (omega arith) in
    let appended = c.append.ensures.appended in
    let x = some_watching (fresh_watches c.loop-i.places.items (take i clauses) c.args.base (length c.args.trail.now.entries)) c.append.new.places.items c.args.arena.now c.args.trail.now old.watching.0 old.watching.1
    (omega (arith, old.long)) at h.0 h.1 h.2 (subst (IsDistinct same) words c.clause.ensures.distinct)
    (λ j b e. let s : j ≡ i = c.requires.named j i (omega arith) l (ap (λ (r : Ref). r.number) (sym (get_or-take i clauses j no_clause (omega arith))) ∙ e) in omega arith)
    (appends c.loop-i.places.items c.append.new.places.items c.args.base h.0 c.first_two-pair.result.one c.first_two-pair.result.two appended
    (subst (λ (C : Clause). (d : Literal) → 2 ≤ length C → (c.first_two-pair.result.one ≡ get_or C 0 d) × (c.first_two-pair.result.two ≡ get_or C 1 d)) words c.first_two-pair.ensures)) in
    record {
      watching = subst (λ (cs : List Ref). AreWatching (fresh_watches c.append.new.places.items cs c.args.base (length c.args.trail.now.entries)) c.args.arena.now c.args.trail.now) (sym (take_more clauses i no_clause l)) x;
      long = omega (arith, appended.long, old.long);
      room = omega (arith, c.append.ensures.room, old.room);
    }

pub returns : goal.returns
returns c =
    let old = c.loop-i.invariant in
    let e : c.loop-i.i ≡ length c.args.clauses.now = omega (arith, c.loop-i-test.false, c.loop-i.auto.i-end) in
    let n = length c.args.trail.now.entries in
    record {
      watching = subst (λ (cs : List Ref). AreWatching (fresh_watches c.loop-i.places.items cs c.args.base n) c.args.arena.now c.args.trail.now) (take_all c.loop-i.i c.args.clauses.now (omega arith)) old.watching;
      whole = omega (arith, old.long);
    }
