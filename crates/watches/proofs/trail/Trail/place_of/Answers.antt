use Rattle.std.proofs.Common.{◌≡◌, ◌<◌, ap, sym, subst, ◌∙◌, length, arith, true, get_or}
use Rattle.std.proofs.lemmas.List.{get_or_read}
use Rattle.dimacs.specs.logic.Literal.{var_of}
use Rattle.watches.specs.Trails.{holds}
use Rattle.watches.proofs.TrailLemmas.{holds_within, place_of}
use Rattle.watches.proofs.trail.Trail.place_of.Goals as goal

pub index-place-requires : goal.index-place-requires
index-place-requires c =
    let v = c.self.invariant in
    let h : holds c.self.inside.entries.items c.args.literal ≡ true = ap (λ t. holds t.entries c.args.literal) c.self.view_is ∙ c.requires in
    let w = holds_within c.self.inside.entries.items c.self.inside.vars c.args.literal v.within h in
    let at : c.number.result ≡ var_of c.args.literal = c.number.ensures.value ∙ c.var.ensures in
    omega (arith, at, v.placed, w.1, c.self.inside.places.ok.0)

pub returns-clause-within : goal.returns-clause-within
returns-clause-within c =
    let v = c.self.invariant in
    let h : holds c.self.inside.entries.items c.args.literal ≡ true = ap (λ t. holds t.entries c.args.literal) c.self.view_is ∙ c.requires in
    let p = place_of c.self.inside.entries.items c.self.inside.places.items c.args.literal v.found h in
    let w = holds_within c.self.inside.entries.items c.self.inside.vars c.args.literal v.within h in
    let at : c.number.result ≡ var_of c.args.literal = c.number.ensures.value ∙ c.var.ensures in
    let here : c.number.result < length c.self.inside.places.items = omega (arith, at, v.placed, w.1) in
    let e : c.index-place.result.now ≡ get_or c.self.inside.places.items (var_of c.args.literal) 0 =
    get_or_read c.self.inside.places.items _ _ here c.index-place.ensures 0 ∙ ap (λ i. get_or c.self.inside.places.items i 0) at in
    subst (λ t. c.index-place.result.now < length t.entries) c.self.view_is (subst (λ i. i < length c.self.inside.entries.items) (sym e) p.0)

pub returns-clause-literal : goal.returns-clause-literal
returns-clause-literal c = λ d.
    let v = c.self.invariant in
    let h : holds c.self.inside.entries.items c.args.literal ≡ true = ap (λ t. holds t.entries c.args.literal) c.self.view_is ∙ c.requires in
    let p = place_of c.self.inside.entries.items c.self.inside.places.items c.args.literal v.found h in
    let w = holds_within c.self.inside.entries.items c.self.inside.vars c.args.literal v.within h in
    let at : c.number.result ≡ var_of c.args.literal = c.number.ensures.value ∙ c.var.ensures in
    let here : c.number.result < length c.self.inside.places.items = omega (arith, at, v.placed, w.1) in
    let e : c.index-place.result.now ≡ get_or c.self.inside.places.items (var_of c.args.literal) 0 =
    get_or_read c.self.inside.places.items _ _ here c.index-place.ensures 0 ∙ ap (λ i. get_or c.self.inside.places.items i 0) at in
    subst (λ t. (get_or t.entries c.index-place.result.now d).literal ≡ c.args.literal) c.self.view_is (ap (λ i. (get_or c.self.inside.entries.items i d).literal) e ∙ p.1 d)
