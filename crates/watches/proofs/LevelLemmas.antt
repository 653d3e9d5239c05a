-- The present level of a trail.
use Rattle.std.proofs.Common.{◌≡◌, ℕ, ◌-◌, ◌<◌, ◌≤◌, List, [], ◌∷◌, length, get_or, refl, ap, sym, subst, arith, Some, None}
use Rattle.std.specs.List.{slice_get}
use Rattle.std.proofs.lemmas.Option.{slice_get_within, get_or_from_slice_get, slice_get-get_or}
use Prim.Native.Nat.{max}
use Rattle.std.specs.List.{All}
use Rattle.std.proofs.lemmas.List.Elements.{All-head, All-tail, All-cons, All-weaker, All-nil}
use Rattle.watches.specs.declared.trail.Assigned.{Assigned}
use Rattle.watches.specs.Trails.{present}

pub present_le : (es : List Assigned) (r : ℕ) → All (λ e. e.level ≤ r) es → present es ≤ r
present_le [] r a = omega arith
present_le (e ∷ es) r a =
    let h = All-head (λ x. x.level ≤ r) e es a in
    let t = present_le es r (All-tail (λ x. x.level ≤ r) e es a) in
    omega arith

pub le_present : (es : List Assigned) → All (λ e. e.level ≤ present es) es
le_present [] = All-nil (λ e. e.level ≤ 0)
le_present (e ∷ es) = All-cons (λ x. x.level ≤ max e.level (present es)) e es (omega arith) (All-weaker (λ x. x.level ≤ present es) (λ x. x.level ≤ max e.level (present es)) (λ x h. omega arith) es (le_present es))

-- a bound that the last one reaches
pub present_last : (es : List Assigned) (r : ℕ) (d : Assigned) → All (λ e. e.level ≤ r) es → 0 < length es → r ≡ (get_or es (length es - 1) d).level → r ≡ present es
present_last es r d a l e =
    let x = present_le es r a in
    let y = le_present es (length es - 1) d (omega arith) in
    omega arith

pub present_none : (es : List Assigned) → length es ≡ 0 → present es ≡ 0
present_none [] e = refl
present_none (x ∷ es) e = absurd (omega arith)

pub level_some : (es : List Assigned) (e : Assigned) → Some e ≡ slice_get es (length es - 1)
    → ((i j : ℕ) (d : Assigned) → i ≤ j → j < length es → (get_or es i d).level ≤ (get_or es j d).level) → e.level ≡ present es
level_some es e h r =
    let l = slice_get_within es (length es - 1) e (sym h) in
    present_last es e.level e
    (λ k d b. subst (λ (x : Assigned). (get_or es k d).level ≤ x.level) (get_or_from_slice_get es (length es - 1) e d (sym h)) (r k (length es - 1) d (omega arith) l))
    (omega arith) (ap (λ (x : Assigned). x.level) (sym (get_or_from_slice_get es (length es - 1) e e (sym h))))

pub level_none : (es : List Assigned) → None ≡ slice_get es (length es - 1) → 0 ≡ present es
level_none [] h = refl
level_none (x ∷ es) h = absurd (let e = slice_get-get_or (x ∷ es) (length (x ∷ es) - 1) x (omega arith) in cc)
