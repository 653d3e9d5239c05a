use Rattle.std.proofs.Common.{◌≡◌, ◌≤◌, ◌++◌, ◌∷◌, [], Bool, true, List, length, get_or, refl, sym, ap, subst, ◌∙◌, arith}
use Rattle.std.specs.List.{Contains, IsDistinct}
use Rattle.dimacs.specs.logic.Literal.{Literal, Clause, IsWithin, same}
use Rattle.clause_arena.specs.declared.reference.Ref.{Ref}
use Rattle.watches.specs.declared.watched.watch.Watch.{Watch}
use Rattle.watches.specs.ClauseNumbers.{numbers}
use Rattle.watches.specs.inner.WatchLists.{AppendsTwo}
use Rattle.watches.specs.Watches.{Watches, attached_of}
use Rattle.watches.specs.inner.Ready.{AreWatches, IsReady}
use Rattle.watches.specs.inner.ReadyLaws.{ready_elsewhere}
use Rattle.watches.proofs.Added.{live_again}
use Rattle.watches.proofs.ReorderedLemmas.{all_same}
use Rattle.std.proofs.lemmas.List.{map-append}
use Rattle.watches.proofs.DetachLemmas.{attached_push}
use Rattle.watches.proofs.ReadyLemmas.{watches_attached, ready_attached}
use Rattle.watches.proofs.watched.WatchedPropagator.attach.Goals as goal

-- what the clauses and their marks are then
added : (c : goal.After-append) → c.push_reserved.new.self.items ≡ c.self.inside.lists.clauses.items ++ c.args.at ∷ []
added c = c.push_reserved.ensures.items ∙ ap (λ (cs : List Ref). cs ++ c.args.at ∷ []) c.reserve.ensures.items

marked : (c : goal.After-append) → c.push_reserved-2.new.self.items ≡ c.self.inside.live.items ++ true ∷ []
marked c = c.push_reserved-2.ensures.items ∙ ap (λ (ms : List Bool). ms ++ true ∷ []) c.reserve-2.ensures.items

abbrev before : goal.After-append → Watches
before c = let i = c.self.inside in record { places = i.lists.places.items; clauses = attached_of i.lists.clauses.items i.live.items; base = i.lists.base; head = i.lists.head; stale = i.lists.stale }

more : (c : goal.After-append) → attached_of c.push_reserved.new.self.items c.push_reserved-2.new.self.items ≡ attached_of c.self.inside.lists.clauses.items c.self.inside.live.items ++ c.args.at ∷ []
more c =
    let i = c.self.inside in
    ap (λ (cs : List Ref). attached_of cs c.push_reserved-2.new.self.items) (added c) ∙ ap (attached_of (i.lists.clauses.items ++ c.args.at ∷ [])) (marked c) ∙ attached_push i.lists.clauses.items i.live.items c.args.at true c.self.invariant.marked

fresh : (c : goal.After-append) → Contains (numbers (attached_of c.self.inside.lists.clauses.items c.self.inside.live.items)) c.args.at.number → ⊥
fresh c = subst (λ (x : Watches). Contains (numbers x.clauses) c.args.at.number → ⊥) (sym c.self.view_is) c.requires.apart

appended : (c : goal.After-append) → AppendsTwo c.self.inside.lists.places.items c.append.new.places.items c.self.inside.lists.base c.first_two-pair.result.one c.first_two-pair.result.two
appended c = subst (λ (ps : List Watch). AppendsTwo ps c.append.new.places.items c.self.inside.lists.base c.first_two-pair.result.one c.first_two-pair.result.two) c.reserve-3.ensures.items c.append.ensures.appended

pub invariant_of-self-2 : goal.invariant_of-self-2
invariant_of-self-2 c =
    let i = c.self.inside in
    let pair = c.first_two-pair.result in
    let ys = c.append.new.places.items in
    let live = live_again c.args.arena.now c.put_best_first.new.arena c.args.at c.args.at.number c.requires.live.0 c.requires.live.1 c.put_best_first.ensures.same in
    subst (λ (cs : List Ref). AreWatches ys cs c.push_reserved-2.new.self.items i.lists.base i.lists.stale) (sym (added c))
    (subst (λ (ms : List Bool). AreWatches ys (i.lists.clauses.items ++ c.args.at ∷ []) ms i.lists.base i.lists.stale) (sym (marked c))
    (watches_attached (before c) i.lists.clauses.items i.live.items refl c.self.invariant c.put_best_first.new.arena c.args.trail.now ys c.args.at live.0 pair.one pair.two (fresh c) (appended c) (omega (arith, c.if-len-gt-MOST_PLACES.false, c.len.ensures, i.lists.places.ok.0))))

pub returns-clause-ok : goal.returns-clause-ok
returns-clause-ok c = ap numbers (more c) ∙ map-append (λ (x : Ref). x.number) (attached_of c.self.inside.lists.clauses.items c.self.inside.live.items) (c.args.at ∷ []) ∙ ap (λ (w : Watches). numbers w.clauses ++ c.args.at.number ∷ []) c.self.view_is

pub returns-clause-ready : goal.returns-clause-ready
returns-clause-ready c =
    let i = c.self.inside in
    let w = before c in
    let pair = c.first_two-pair.result in
    let ys = c.append.new.places.items in
    let m = c.put_best_first.new.arena in
    let C = c.requires.live.0 in
    let live = live_again c.args.arena.now m c.args.at c.args.at.number C c.requires.live.1 c.put_best_first.ensures.same in
    let ready = ready_elsewhere w c.args.arena.now m c.args.trail.now (subst (λ (x : Watches). IsReady x c.args.arena.now c.args.trail.now) (sym c.self.view_is) c.requires.ready)
    (λ n h. c.put_best_first.ensures.others n (λ e. fresh c (subst (Contains (numbers w.clauses)) e h))) in
    let within = all_same (IsWithin c.args.trail.now.vars) c.args.arena.now m c.args.at C live.0 c.put_best_first.ensures.same c.requires.live.1 live.1 (c.requires.within C c.requires.live.1) in
    let words = c.clause.ensures.literals live.0 live.1 in
    subst (λ (cs : List Ref). IsReady (record w { places = ys; clauses = cs }) m c.args.trail.now) (sym (more c))
    (ready_attached w i.lists.clauses.items i.live.items refl c.self.invariant m c.args.trail.now ys c.args.at live.0 pair.one pair.two (fresh c) (appended c) ready live.1 within (subst (IsDistinct same) words c.clause.ensures.distinct)
    (subst (λ (D : Clause). (d : Literal) → 2 ≤ length D → (pair.one ≡ get_or D 0 d) × (pair.two ≡ get_or D 1 d)) words c.first_two-pair.ensures))
