-- Entries of a trail: no two have one variable; how many were met.
use Rattle.std.proofs.Common.{◌≡◌, ℕ, ◌+◌, ◌<◌, ◌≤◌, inl, inr, Bool, true, false, cond, eqb, ◌||◌, ◌&&◌, List, [], ◌∷◌, ◌++◌, length-append, get_or, refl, ap, sym, ◌∙◌, subst, arith}
use Rattle.std.specs.List.{Contains, IsDistinct, list_any}
use Rattle.std.proofs.lemmas.Bool.{cases_Bool, false≢true, eq-eqb, ne_eqb, or_left, or_right, or_cases, and_from, and_parts}
use Rattle.std.proofs.lemmas.Map.Keys.{IsDistinct-tail, IsDistinct-from_apart, apart_from_distinct}
use Rattle.std.proofs.lemmas.List.Sums.{sum_by-cons}
use Rattle.std.proofs.lemmas.List.{map-append, get_or_append_left}
use Rattle.dimacs.specs.logic.Literal.{Literal, same, var_of}
use Rattle.dimacs.proofs.LiteralLemmas.{same-true, same-is}
use Rattle.dimacs.proofs.Members.{Contains-head, Contains-cons, Contains-cons_cases, Contains-nil}
use Rattle.watches.specs.Trails.{holds, variables}
use Rattle.watches.specs.declared.trail.Assigned.{Assigned}
use Rattle.watches.proofs.TrailLemmas.{head_alone}
use Rattle.conflict_analysis.specs.inner.TrailWalk.{waiting}

-- a literal of the trail is an entry's
pub entry_from_holds : (es : List Assigned) (l : Literal) → holds es l ≡ true → (e : Assigned) × Contains es e × (e.literal ≡ l)
entry_from_holds [] l h = absurd (false≢true h)
entry_from_holds (x ∷ xs) l h = elim (or_cases (same x.literal l) (holds xs l) h) [
  | inl t ↦ (x, Contains-head x xs, same-true x.literal l t)
  | inr t ↦ let r = entry_from_holds xs l t in (r.0, Contains-cons x r.0 xs r.1, r.2)
]

pub holds_from_entry : (es : List Assigned) (e : Assigned) → Contains es e → holds es e.literal ≡ true
holds_from_entry [] e h = absurd (Contains-nil e h)
holds_from_entry (x ∷ xs) e h = elim (Contains-cons_cases x e xs h) [
  | inl q ↦ or_left (same x.literal e.literal) (holds xs e.literal) (same-is x.literal e.literal (ap (λ (y : Assigned). y.literal) q))
  | inr c ↦ or_right (same x.literal e.literal) (holds xs e.literal) (holds_from_entry xs e c)
]

variable_from_entry : (es : List Assigned) (e : Assigned) (v : ℕ) → Contains es e → var_of e.literal ≡ v → list_any (eqb v) (variables es) ≡ true
variable_from_entry [] e v h q = absurd (Contains-nil e h)
variable_from_entry (x ∷ xs) e v h q = elim (Contains-cons_cases x e xs h) [
  | inl p ↦ or_left (eqb v (var_of x.literal)) (list_any (eqb v) (variables xs)) (eq-eqb v (var_of x.literal) (sym q ∙ ap (λ (y : Assigned). var_of y.literal) (sym p)))
  | inr c ↦ or_right (eqb v (var_of x.literal)) (list_any (eqb v) (variables xs)) (variable_from_entry xs e v c q)
]

-- an entry is known by its variable
pub one_entry : (es : List Assigned) (e f : Assigned) → IsDistinct eqb (variables es) → Contains es e → Contains es f → var_of e.literal ≡ var_of f.literal → e ≡ f
one_entry [] e f d i j q = absurd (Contains-nil e i)
one_entry (x ∷ xs) e f d i j q = elim (Contains-cons_cases x e xs i) [
  | inl p ↦ elim (Contains-cons_cases x f xs j) [
    | inl r ↦ sym p ∙ r
    | inr c ↦ absurd (head_alone (var_of x.literal) (variables xs) d (variable_from_entry xs f (var_of x.literal) c (sym q ∙ ap (λ (y : Assigned). var_of y.literal) (sym p))))
  ]
  | inr b ↦ elim (Contains-cons_cases x f xs j) [
    | inl r ↦ absurd (head_alone (var_of x.literal) (variables xs) d (variable_from_entry xs e (var_of x.literal) b (q ∙ ap (λ (y : Assigned). var_of y.literal) (sym r))))
    | inr c ↦ one_entry xs e f (IsDistinct-tail eqb (var_of x.literal) (variables xs) d) b c q
  ]
]

pub distinct_left : (es more : List Assigned) → IsDistinct eqb (variables (es ++ more)) → IsDistinct eqb (variables es)
distinct_left es more d = distinct_front (variables es) (variables more) (subst (IsDistinct eqb) (map-append (λ (e : Assigned). var_of e.literal) es more) d)
  where
    distinct_front : (xs ys : List ℕ) → IsDistinct eqb (xs ++ ys) → IsDistinct eqb xs
    distinct_front xs ys h = IsDistinct-from_apart eqb xs (λ i j d l b.
        subst (λ x. eqb x (get_or xs j d) ≡ false) (get_or_append_left xs ys d i (omega arith))
        (subst (λ x. eqb (get_or (xs ++ ys) i d) x ≡ false) (get_or_append_left xs ys d j b)
        (apart_from_distinct eqb (xs ++ ys) i j d h l (omega (arith, length-append xs ys)))))

-- one where the test holds
abbrev pub one_if : Bool → ℕ
one_if b = cond b 1 0

-- ---- how many were met
pub waiting_cons : (f : ℕ → Bool) (at : ℕ → Bool) (x : Assigned) (xs : List Assigned) → waiting f at (x ∷ xs) ≡ one_if (f (var_of x.literal) && at x.level) + waiting f at xs
waiting_cons f at x xs = sum_by-cons (λ (e : Assigned). one_if (f (var_of e.literal) && at e.level)) x xs

pub waiting_agree : (es : List Assigned) (f g : ℕ → Bool) (at : ℕ → Bool) → ((e : Assigned) → Contains es e → f (var_of e.literal) ≡ g (var_of e.literal)) → waiting f at es ≡ waiting g at es
waiting_agree [] f g at h = refl
waiting_agree (x ∷ xs) f g at h =
    let one : one_if (f (var_of x.literal) && at x.level) ≡ one_if (g (var_of x.literal) && at x.level) = ap (λ b. one_if (b && at x.level)) (h x (Contains-head x xs)) in
    let more = waiting_agree xs f g at (λ e c. h e (Contains-cons x e xs c)) in
    let a = waiting_cons f at x xs in
    let b = waiting_cons g at x xs in
    omega (arith, one, more, a, b)

-- one more is met
pub waiting_one : (es : List Assigned) (f g : ℕ → Bool) (at : ℕ → Bool) (e : Assigned) → IsDistinct eqb (variables es) → Contains es e → f (var_of e.literal) ≡ false
    → ((v : ℕ) → g v ≡ (f v || eqb v (var_of e.literal))) → waiting g at es ≡ one_if (at e.level) + waiting f at es
waiting_one [] f g at e d i n h = absurd (Contains-nil e i)
waiting_one (x ∷ xs) f g at e d i n h = elim (Contains-cons_cases x e xs i) [
  | inl p ↦
      let gx : g (var_of x.literal) ≡ true = h (var_of x.literal) ∙ or_right (f (var_of x.literal)) (eqb (var_of x.literal) (var_of e.literal)) (eq-eqb (var_of x.literal) (var_of e.literal) (ap (λ (y : Assigned). var_of y.literal) p)) in
      let fx : f (var_of x.literal) ≡ false = ap (λ (y : Assigned). f (var_of y.literal)) p ∙ n in
      let rest : waiting g at xs ≡ waiting f at xs = waiting_agree xs g f at (λ y c. h (var_of y.literal) ∙ or_false_right (f (var_of y.literal)) (eqb (var_of y.literal) (var_of e.literal))
      (ne_eqb (var_of y.literal) (var_of e.literal) (λ q. head_alone (var_of x.literal) (variables xs) d (variable_from_entry xs y (var_of x.literal) c (q ∙ ap (λ (z : Assigned). var_of z.literal) (sym p)))))) in
      let a : one_if (g (var_of x.literal) && at x.level) ≡ one_if (at e.level) = ap (λ b. one_if (b && at x.level)) gx ∙ ap (λ (y : Assigned). one_if (at y.level)) p in
      let b : one_if (f (var_of x.literal) && at x.level) ≡ 0 = ap (λ b. one_if (b && at x.level)) fx in
      let l = waiting_cons f at x xs in
      let r = waiting_cons g at x xs in
      omega (arith, a, b, rest, l, r)
  | inr c ↦
      let apart : eqb (var_of x.literal) (var_of e.literal) ≡ false = ne_eqb (var_of x.literal) (var_of e.literal) (λ q. head_alone (var_of x.literal) (variables xs) d (variable_from_entry xs e (var_of x.literal) c (sym q))) in
      let one : one_if (g (var_of x.literal) && at x.level) ≡ one_if (f (var_of x.literal) && at x.level) = ap (λ b. one_if (b && at x.level)) (h (var_of x.literal) ∙ or_false_right (f (var_of x.literal)) (eqb (var_of x.literal) (var_of e.literal)) apart) in
      let more = waiting_one xs f g at e (IsDistinct-tail eqb (var_of x.literal) (variables xs) d) c n h in
      let l = waiting_cons f at x xs in
      let r = waiting_cons g at x xs in
      omega (arith, one, more, l, r)
]
  where
    or_false_right : (a b : Bool) → b ≡ false → (a || b) ≡ a
    or_false_right true b q = refl
    or_false_right false b q = q

pub waiting_some : (es : List Assigned) (f : ℕ → Bool) (at : ℕ → Bool) (e : Assigned) → Contains es e → f (var_of e.literal) ≡ true → at e.level ≡ true → 0 < waiting f at es
waiting_some [] f at e i m l = absurd (Contains-nil e i)
waiting_some (x ∷ xs) f at e i m l = elim (Contains-cons_cases x e xs i) [
  | inl p ↦
      let a : one_if (f (var_of x.literal) && at x.level) ≡ 1 = ap one_if (and_from (f (var_of x.literal)) (at x.level) (ap (λ (y : Assigned). f (var_of y.literal)) p ∙ m) (ap (λ (y : Assigned). at y.level) p ∙ l)) in
      let n = waiting_cons f at x xs in
      omega (arith, a, n)
  | inr c ↦ let r = waiting_some xs f at e c m l in let n = waiting_cons f at x xs in omega (arith, r, n)
]

-- one that waits
pub waiting_found : (es : List Assigned) (f : ℕ → Bool) (at : ℕ → Bool) → 0 < waiting f at es → (e : Assigned) × Contains es e × (f (var_of e.literal) ≡ true) × (at e.level ≡ true)
waiting_found [] f at h = absurd (omega (arith, h))
waiting_found (x ∷ xs) f at h = elim (cases_Bool (f (var_of x.literal) && at x.level)) [
  | inl t ↦ let p = and_parts (f (var_of x.literal)) (at x.level) t in (x, Contains-head x xs, p.0, p.1)
  | inr n ↦
      let b : one_if (f (var_of x.literal) && at x.level) ≡ 0 = ap one_if n in
      let l = waiting_cons f at x xs in
      let r = waiting_found xs f at (omega (arith, h, b, l)) in (r.0, Contains-cons x r.0 xs r.1, r.2, r.3)
]

pub waiting_more : (es : List Assigned) (f g : ℕ → Bool) (at : ℕ → Bool) → ((v : ℕ) → f v ≡ true → g v ≡ true) → waiting f at es ≤ waiting g at es
waiting_more [] f g at h = omega arith
waiting_more (x ∷ xs) f g at h =
    let l = waiting_cons f at x xs in
    let r = waiting_cons g at x xs in
    let m = waiting_more xs f g at h in
    let one = less (f (var_of x.literal)) (g (var_of x.literal)) (at x.level) (h (var_of x.literal)) in
    omega (arith, l, r, m, one)
  where
    less : (a b c : Bool) → (a ≡ true → b ≡ true) → one_if (a && c) ≤ one_if (b && c)
    less false b c k = omega arith
    less true true c k = omega arith
    less true false c k = absurd (false≢true (k refl))
