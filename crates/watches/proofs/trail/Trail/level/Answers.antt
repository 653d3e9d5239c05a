use Rattle.std.proofs.Common.{List, ◌≡◌, ◌≤◌, ◌<◌, ◌-◌, ap, sym, subst, arith, length, get_or, ◌∙◌}
use Rattle.std.proofs.lemmas.Option.{get_or_from_slice_get}
use Rattle.watches.specs.declared.trail.Assigned.{Assigned}
use Rattle.watches.proofs.LevelLemmas.{level_some, level_none}
use Rattle.std.specs.List.{slice_get}
use Rattle.watches.specs.Trails.{present}
use Rattle.watches.proofs.trail.Trail.level.Goals as goal

pub returns-in-Some-clause-greatest : goal.returns-in-Some-clause-greatest
returns-in-Some-clause-greatest c = λ k d l.
    let es = c.self.inside.entries.items in
    let same : es ≡ c.args.self.now.entries = ap (λ t. t.entries) c.self.view_is in
    let b : k < length es = omega (arith, ap length same) in
    let e : get_or es (length es - 1) d ≡ c.in-Some.entry.now =
    ap (λ xs. get_or xs (length xs - 1) d) (sym c.deref.ensures.value) ∙ get_or_from_slice_get c.deref.result.now (length c.deref.result.now - 1) c.in-Some.entry.now d (sym c.in-Some.ensures.value) in
    subst (λ xs. (get_or xs k d).level ≤ c.in-Some.entry.now.level) same
    (subst (λ (x : Assigned). (get_or es k d).level ≤ x.level) e (c.self.invariant.rising k (length es - 1) d (omega arith) (omega arith)))

pub returns-in-Some-clause-present : goal.returns-in-Some-clause-present
returns-in-Some-clause-present c =
    level_some c.self.inside.entries.items c.in-Some.entry.now (c.in-Some.ensures.value ∙ ap (λ (xs : List Assigned). slice_get xs (length xs - 1)) c.deref.ensures.value) c.self.invariant.rising ∙ ap (λ t. present t.entries) c.self.view_is

pub returns-in-None-clause-present : goal.returns-in-None-clause-present
returns-in-None-clause-present c =
    level_none c.self.inside.entries.items (c.in-None.ensures.value ∙ ap (λ (xs : List Assigned). slice_get xs (length xs - 1)) c.deref.ensures.value) ∙ ap (λ t. present t.entries) c.self.view_is
