use Rattle.std.proofs.Common.{◌≡◌, ℕ, ◌<◌, ◌≤◌, ◌∷◌, ◌++◌, [], ap, sym, subst, ◌∙◌, length, arith, rules, false, set, get_or}
use Rattle.std.proofs.lemmas.List.{length-set}
use Rattle.std.proofs.lemmas.List.Elements.{All-push}
use Rattle.std.specs.List.{All}
use Rattle.dimacs.specs.logic.Literal.{IsWithin, negation, var_of, index_of}
use Rattle.watches.specs.declared.trail.Assigned.{Assigned}
use Rattle.watches.specs.declared.truth.Truth.TheVariants.{Free, True, False}
use Rattle.watches.specs.Trails.{holds}
use Rattle.watches.specs.inner.TrailTables.{truth_of}
use Rattle.watches.proofs.TrailLemmas.{room, agrees_push, apart_push, rising_push, found_push}
use Rattle.watches.proofs.trail.Trail.push.Goals as goal

pub overflow_cast-len : goal.overflow_cast-len
overflow_cast-len c =
    let v = c.self.invariant in
    let b : IsWithin c.self.inside.vars c.args.entry.literal = subst (λ t. IsWithin t.vars c.args.entry.literal) (sym c.self.view_is) c.requires.within in
    let h : holds c.self.inside.entries.items c.args.entry.literal ≡ false = ap (λ t. holds t.entries c.args.entry.literal) c.self.view_is ∙ c.requires.not_true in
    let k : holds c.self.inside.entries.items (negation c.args.entry.literal) ≡ false = ap (λ t. holds t.entries (negation c.args.entry.literal)) c.self.view_is ∙ c.requires.not_false in
    let l = room c.self.inside.entries.items c.args.entry c.self.inside.vars v.within b v.apart h k in
    let r = c.self.ranges in
    omega (arith, c.len.ensures, c.self.inside.entries.ok.0)

pub push_reserved-requires : goal.push_reserved-requires
push_reserved-requires c =
    let v = c.self.invariant in
    let b : IsWithin c.self.inside.vars c.args.entry.literal = subst (λ t. IsWithin t.vars c.args.entry.literal) (sym c.self.view_is) c.requires.within in
    let h : holds c.self.inside.entries.items c.args.entry.literal ≡ false = ap (λ t. holds t.entries c.args.entry.literal) c.self.view_is ∙ c.requires.not_true in
    let k : holds c.self.inside.entries.items (negation c.args.entry.literal) ≡ false = ap (λ t. holds t.entries (negation c.args.entry.literal)) c.self.view_is ∙ c.requires.not_false in
    let l = room c.self.inside.entries.items c.args.entry c.self.inside.vars v.within b v.apart h k in
    omega (arith, v.fits, c.self.inside.entries.ok.0)

pub invariant_of-self : goal.invariant_of-self
invariant_of-self c =
    let v = c.self.invariant in
    let b : IsWithin c.self.inside.vars c.args.entry.literal = subst (λ t. IsWithin t.vars c.args.entry.literal) (sym c.self.view_is) c.requires.within in
    let h : holds c.self.inside.entries.items c.args.entry.literal ≡ false = ap (λ t. holds t.entries c.args.entry.literal) c.self.view_is ∙ c.requires.not_true in
    let k : holds c.self.inside.entries.items (negation c.args.entry.literal) ≡ false = ap (λ t. holds t.entries (negation c.args.entry.literal)) c.self.view_is ∙ c.requires.not_false in
    let e : c.push_reserved.new.self.items ≡ c.self.inside.entries.items ++ c.args.entry ∷ [] = search rules in
    let one : c.index.result ≡ index_of c.args.entry.literal = c.index.ensures.value in
    let two : c.index-2.result ≡ index_of (negation c.args.entry.literal) = c.index-2.ensures.value ∙ ap index_of c.negate.ensures in
    let at : c.number.result ≡ var_of c.args.entry.literal = c.number.ensures.value ∙ c.var.ensures in
    let count : c.len.result ≡ length c.self.inside.entries.items = omega (arith, c.len.ensures, c.self.inside.entries.ok.0) in
    let agrees = agrees_push c.self.inside.entries.items c.args.entry c.self.inside.values.items c.self.inside.vars v.valued v.agrees b h k in
    record {
      valued = length-set _ _ _ ∙ length-set _ _ _ ∙ v.valued;
      placed = length-set _ _ _ ∙ v.placed;
      agrees = λ l here. ap (λ i. get_or (set (set c.self.inside.values.items i True) c.index-2.result False) (index_of l) Free) one
          ∙ ap (λ i. get_or (set (set c.self.inside.values.items (index_of c.args.entry.literal) True) i False) (index_of l) Free) two
          ∙ agrees l here ∙ ap (λ es. truth_of es l) (sym e);
      within = rw e (All-push (λ x. IsWithin c.self.inside.vars x.literal) c.self.inside.entries.items c.args.entry v.within b);
      apart = rw e (apart_push c.self.inside.entries.items c.args.entry v.apart h k);
      rising = rw e (rising_push c.self.inside.entries.items c.args.entry v.rising (subst (λ t. All (λ x. x.level ≤ c.args.entry.level) t.entries) (sym c.self.view_is) c.requires.rising));
      found = rw (e, at) (subst (λ n. (i : ℕ) (d : Assigned) → i < length (c.self.inside.entries.items ++ c.args.entry ∷ []) → get_or (set c.self.inside.places.items (var_of c.args.entry.literal) n) (var_of (get_or (c.self.inside.entries.items ++ c.args.entry ∷ []) i d).literal) 0 ≡ i) (sym count)
          (found_push c.self.inside.entries.items c.args.entry c.self.inside.places.items v.found (omega (arith, v.placed, b.1)) h k));
      fits = let f = c.push_reserved.ensures.capacity in omega arith;
    }

pub returns-clause-room : goal.returns-clause-room
returns-clause-room c =
    let v = c.self.invariant in
    let b : IsWithin c.self.inside.vars c.args.entry.literal = subst (λ t. IsWithin t.vars c.args.entry.literal) (sym c.self.view_is) c.requires.within in
    let h : holds c.self.inside.entries.items c.args.entry.literal ≡ false = ap (λ t. holds t.entries c.args.entry.literal) c.self.view_is ∙ c.requires.not_true in
    let k : holds c.self.inside.entries.items (negation c.args.entry.literal) ≡ false = ap (λ t. holds t.entries (negation c.args.entry.literal)) c.self.view_is ∙ c.requires.not_false in
    subst (λ t. length t.entries < t.vars) c.self.view_is (room c.self.inside.entries.items c.args.entry c.self.inside.vars v.within b v.apart h k)
