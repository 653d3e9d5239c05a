-- A guard that follows from the levels of two entries.
use Rattle.std.proofs.Common.{◌≡◌, ℕ, zero, suc, ◌<◌, ◌≤◌, ◌&&◌, inl, inr, Bool, true, false, List, [], ◌∷◌, length, get_or, ap, sym, ◌∙◌, arith, Contains, nat_le, eqb}
use Rattle.std.specs.List.{IsDistinct}
use Rattle.std.proofs.lemmas.Bool.{cases_order, false≢true, or_right, eq-eqb, le-leb}
use Rattle.std.proofs.lemmas.List.{get_or_default, get_or-map, length-map}
use Rattle.std.proofs.lemmas.Map.Keys.{apart_from_distinct}
use Rattle.dimacs.specs.logic.Literal.{Literal, negation, same, var_of}
use Rattle.dimacs.proofs.LiteralLemmas.{same-is}
use Rattle.watches.specs.declared.trail.Assigned.{Assigned}
use Rattle.watches.specs.Trails.{up_to, variables}
use Rattle.watches.specs.inner.WatchInvariants.{IsGuarded}
use Rattle.watches.specs.inner.ReadyLaws.{or_left}

and_both : (a b : Bool) → a ≡ true → b ≡ true → (a && b) ≡ true
and_both true b e f = f
and_both false b e f = absurd (false≢true e)

entry_up_to : (es : List Assigned) (j : ℕ) (x : Assigned) (k : ℕ) (l : Literal) → j < length es → get_or es j x ≡ x → x.literal ≡ l → x.level ≤ k → up_to es k l ≡ true
entry_up_to [] j x k l b e n v = absurd (omega arith)
entry_up_to (y ∷ es) zero x k l b e n v =
    let lit : y.literal ≡ l = ap (λ (z : Assigned). z.literal) e ∙ n in
    let low : y.level ≤ k = omega (arith, ap (λ (z : Assigned). z.level) e) in
    or_left (same y.literal l && nat_le y.level k) (up_to es k l) (and_both (same y.literal l) (nat_le y.level k) (same-is y.literal l lit) (le-leb y.level k low))
entry_up_to (y ∷ es) (suc j) x k l b e n v = or_right (same y.literal l && nat_le y.level k) (up_to es k l) (entry_up_to es j x k l (omega arith) e n v)

-- entries of one variable are one
same_place : (es : List Assigned) (i j : ℕ) (d : Assigned) → IsDistinct eqb (variables es) → i < length es → j < length es → (get_or es i d).literal ≡ (get_or es j d).literal → i ≡ j
same_place es i j d s a b e =
    let n = length-map es (λ (x : Assigned). var_of x.literal) in
    let at_i = get_or-map (λ (x : Assigned). var_of x.literal) es i d 0 a in
    let at_j = get_or-map (λ (x : Assigned). var_of x.literal) es j d 0 b in
    let vars : get_or (variables es) i 0 ≡ get_or (variables es) j 0 = at_i ∙ ap var_of e ∙ sym at_j in
    elim (cases_order i j) [
      | inl x ↦ x
      | inr y ↦ elim y [
        | inl l ↦ absurd (false≢true (sym (apart_from_distinct eqb (variables es) i j 0 s l (omega arith)) ∙ eq-eqb _ _ vars))
        | inr l ↦ absurd (false≢true (sym (apart_from_distinct eqb (variables es) j i 0 s l (omega arith)) ∙ eq-eqb _ _ (sym vars)))
      ]
    ]

pub guarded_by : (es : List Assigned) (head : ℕ) (w b : Literal) (mine theirs : Assigned) → IsDistinct eqb (variables es) → head ≤ length es
    → Contains es mine → mine.literal ≡ negation w → Contains es theirs → theirs.literal ≡ b → theirs.level ≤ mine.level → IsGuarded es head w b
guarded_by es head w b mine theirs s h m ml t tl v i d l e =
    let at_m : get_or es m.0 d ≡ mine = get_or_default es m.0 d mine m.1 ∙ m.2 in
    let same_i : i ≡ m.0 = same_place es i m.0 d s (omega arith) m.1 (e ∙ sym ml ∙ ap (λ (x : Assigned). x.literal) (sym at_m)) in
    let level : (get_or es i d).level ≡ mine.level = ap (λ k. (get_or es k d).level) same_i ∙ ap (λ (x : Assigned). x.level) at_m in
    entry_up_to es t.0 theirs (get_or es i d).level b t.1 t.2 tl (omega arith)
