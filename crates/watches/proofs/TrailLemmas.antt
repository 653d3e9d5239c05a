-- The tables of a trail: push, pop and read.
use Rattle.std.proofs.Common.{zero, suc, ◌≡◌, ◌≢◌, ℕ, ◌+◌, ◌*◌, ◌<◌, ◌≤◌, ◌⊎◌, inl, inr, Bool, true, false, cond, eqb, ◌||◌, List, [], ◌∷◌, ◌++◌, length, get_or, set, None, refl, ap, sym, ◌∙◌, subst, arith, length-append, zero-le, suc-le-suc}
use Rattle.std.specs.List.{list_any, IsDistinct, All, AllByRecursion}
use Rattle.std.proofs.lemmas.List.Folds.{list_any-append, list_any_none}
use Rattle.std.proofs.lemmas.Map.Keys.{IsDistinct-push, IsDistinct-head, IsDistinct-tail, IsDistinct-cons}
use Rattle.std.proofs.lemmas.Map.Steps.{length-le_from_distinct_below}
use Rattle.std.proofs.lemmas.List.{get_or-set_other, get_or-set_same, length-set, length-map, map-append, get_or_append_left, get_or_at}
use Rattle.std.proofs.lemmas.List.Elements.{All-push, All-head, All-tail, All-from_recursion}
use Rattle.std.proofs.Math.Bool.{or-false}
use Rattle.std.proofs.lemmas.Bool.{cases_eq, false≢true, eq-eqb, ne_eqb, eqb-true, eqb-false, or_right}
use Rattle.std.proofs.lemmas.Cmp.{nat_eq_equiv}
use Rattle.dimacs.specs.logic.Literal.{Literal, IsWithin, negation, same, var_of, index_of}
use Rattle.dimacs.proofs.LiteralLemmas.{same-true, same-itself, same-is, same_or_not, same-false, negation-negation, negation_apart, var_of-negation, IsWithin-negation, twins, index_below, index_apart}
use Rattle.watches.specs.declared.trail.Assigned.{Assigned}
use Rattle.watches.specs.declared.truth.Truth.{Truth}
use Rattle.watches.specs.declared.truth.Truth.TheVariants.{Free, True, False}
use Rattle.watches.specs.Trails.{holds, IsTruth, variables}
use Rattle.watches.specs.inner.TrailTables.{truth_of}

-- ---- what a trail holds
or_false : (a b : Bool) → (a || b) ≡ false → (a ≡ false) × (b ≡ false)
or_false true b e = absurd (false≢true (sym e))
or_false false b e = (refl, e)

or_true : (a b : Bool) → (a || b) ≡ true → (a ≡ true) ⊎ (b ≡ true)
or_true true b e = inl refl
or_true false b e = inr e

no_variable : (es : List Assigned) (l : Literal) → holds es l ≡ false → holds es (negation l) ≡ false → list_any (eqb (var_of l)) (variables es) ≡ false
no_variable [] l h k = refl
no_variable (e ∷ es) l h k =
    let f = or_false (same e.literal l) (holds es l) h in
    let g = or_false (same e.literal (negation l)) (holds es (negation l)) k in
    let d : eqb (var_of l) (var_of e.literal) ≡ false = ne_eqb _ _ (λ s. elim (twins e.literal l (sym s)) [
      | inl x ↦ false≢true (sym f.0 ∙ same-is _ _ x)
      | inr x ↦ false≢true (sym g.0 ∙ same-is _ _ x)
    ]) in
    ap (λ b. b || list_any (eqb (var_of l)) (variables es)) d ∙ no_variable es l f.1 g.1

pub apart_push : (es : List Assigned) (e : Assigned) → IsDistinct eqb (variables es) → holds es e.literal ≡ false → holds es (negation e.literal) ≡ false → IsDistinct eqb (variables (es ++ e ∷ []))
apart_push es e d h k = rw map-append (IsDistinct-push nat_eq_equiv _ _ d (no_variable es e.literal h k))

all_variables : (es : List Assigned) (n : ℕ) → All (λ e. IsWithin n e.literal) es → (q : ℕ) → list_any (eqb q) (variables es) ≡ true → (0 < q) × (q ≤ n)
all_variables [] n a q h = absurd (false≢true h)
all_variables (e ∷ es) n a q h =
    elim (or_true (eqb q (var_of e.literal)) _ h) [
      | inl x ↦ subst (λ v. (0 < v) × (v ≤ n)) (sym (eqb-true _ _ x)) (All-head (λ e. IsWithin n e.literal) e es a)
      | inr x ↦ all_variables es n (All-tail (λ e. IsWithin n e.literal) e es a) q x
    ]

zero_apart : (es : List Assigned) (n : ℕ) → All (λ e. IsWithin n e.literal) es → list_any (eqb 0) (variables es) ≡ false
zero_apart [] n a = refl
zero_apart (e ∷ es) n a =
    let h = All-head (λ e. IsWithin n e.literal) e es a in
    ap (λ b. b || list_any (eqb 0) (variables es)) (ne_eqb 0 (var_of e.literal) (λ q. omega (arith, h.0))) ∙ zero_apart es n (All-tail (λ e. IsWithin n e.literal) e es a)

-- the trail is no longer than there are variables
pub within : (es : List Assigned) (n : ℕ) → All (λ e. IsWithin n e.literal) es → IsDistinct eqb (variables es) → length es ≤ n
within es n a d =
    let l = length-le_from_distinct_below (variables es ++ 0 ∷ []) (n + 1) (IsDistinct-push nat_eq_equiv _ 0 d (zero_apart es n a)) (below es n a) in
    omega (arith, length-map es (λ e. var_of e.literal), length-append (variables es) (0 ∷ []))
  where
    small : (q : ℕ) → eqb q 0 ≡ true → (n : ℕ) → q < n + 1
    small q x n = let y = eqb-true q 0 x in omega arith

    below : (es : List Assigned) (n : ℕ) → All (λ e. IsWithin n e.literal) es → (q : ℕ) → list_any (eqb q) (variables es ++ 0 ∷ []) ≡ true → q < n + 1
    below es n a q h = elim (or_true (list_any (eqb q) (variables es)) _ (sym (list_any-append (eqb q) (variables es) (0 ∷ [])) ∙ h)) [
      | inl x ↦ let v = all_variables es n a q x in omega (arith, v.1)
      | inr x ↦ elim (or_true (eqb q 0) false x) [ inl y ↦ small q y n | inr y ↦ absurd (false≢true y) ]
    ]

-- a literal without a value finds room
pub room : (es : List Assigned) (e : Assigned) (n : ℕ) → All (λ e. IsWithin n e.literal) es → IsWithin n e.literal → IsDistinct eqb (variables es) → holds es e.literal ≡ false → holds es (negation e.literal) ≡ false → length es < n
room es e n a b d h k =
    let l = within (es ++ e ∷ []) n (All-push (λ e. IsWithin n e.literal) es e a b) (apart_push es e d h k) in
    omega (arith, length-append es (e ∷ []))

-- ---- the table of values
pub holds_push : (es : List Assigned) (e : Assigned) (m : Literal) → holds (es ++ e ∷ []) m ≡ (holds es m || same e.literal m)
holds_push es e m = list_any-append (λ x. same x.literal m) es (e ∷ []) ∙ ap (λ b. holds es m || b) (or-false (same e.literal m))

abbrev truth : Bool → Bool → Truth
truth a b = cond a True (cond b False Free)

truth_push : (es : List Assigned) (e : Assigned) (l : Literal) (a b : Bool) → (holds es l || same e.literal l) ≡ a → (holds es (negation l) || same e.literal (negation l)) ≡ b → truth_of (es ++ e ∷ []) l ≡ truth a b
truth_push es e l a b h k =
    ap (λ x. truth x (holds (es ++ e ∷ []) (negation l))) (holds_push es e l ∙ h) ∙ ap (truth a) (holds_push es e (negation l) ∙ k)

-- each literal of a variable other than the entry's is as before
as_before : (es : List Assigned) (e : Assigned) (l : Literal) → l ≢ e.literal → l ≢ negation e.literal → truth_of (es ++ e ∷ []) l ≡ truth_of es l
as_before es e l f d = truth_push es e l _ _
    (ap (λ c. holds es l || c) (same-false _ _ (λ y. f (sym y))) ∙ or-false _)
    (ap (λ c. holds es (negation l) || c) (same-false _ _ (λ y. d (sym (negation-negation l) ∙ ap negation (sym y)))) ∙ or-false _)

-- a table of values after a literal and its negation were set
module _ (vs : List Truth) (n : ℕ) (l : Literal) (u v : Truth) (s : length vs ≡ 2 * n + 2) (w : IsWithin n l) where
  abbrev both : List Truth
  both = set (set vs (index_of l) u) (index_of (negation l)) v

  both_negated : get_or both (index_of (negation l)) Free ≡ v
  both_negated =
      let b = index_below n (negation l) (IsWithin-negation n l w) in
      get_or-set_same _ (index_of (negation l)) v Free (omega (arith, length-set vs (index_of l) u))

  both_same : get_or both (index_of l) Free ≡ u
  both_same =
      let b = index_below n l w in
      get_or-set_other _ (index_of (negation l)) (index_of l) v Free (index_apart l (negation l) (λ e. negation_apart l (sym e)))
      ∙ get_or-set_same vs (index_of l) u Free (omega arith)

  both_other : (m : Literal) → m ≢ l → m ≢ negation l → get_or both (index_of m) Free ≡ get_or vs (index_of m) Free
  both_other m f d =
      get_or-set_other _ (index_of (negation l)) (index_of m) v Free (index_apart m (negation l) d)
      ∙ get_or-set_other vs (index_of l) (index_of m) u Free (index_apart m l f)

pub agrees_push : (es : List Assigned) (e : Assigned) (vs : List Truth) (n : ℕ) → length vs ≡ 2 * n + 2 → ((l : Literal) → IsWithin n l → get_or vs (index_of l) Free ≡ truth_of es l) → IsWithin n e.literal → holds es e.literal ≡ false → holds es (negation e.literal) ≡ false
    → (l : Literal) → IsWithin n l → get_or (set (set vs (index_of e.literal) True) (index_of (negation e.literal)) False) (index_of l) Free ≡ truth_of (es ++ e ∷ []) l
agrees_push es e vs n s a w h k l here =
    elim (same_or_not l (negation e.literal)) [
      | inl x ↦
          let none : (holds es l || same e.literal l) ≡ false =
          ap (λ y. holds es y || same e.literal y) x ∙ ap (λ c. c || same e.literal (negation e.literal)) k ∙ same-false _ _ (λ y. negation_apart e.literal (sym y)) in
          let there : (holds es (negation l) || same e.literal (negation l)) ≡ true =
          ap (λ y. holds es (negation y) || same e.literal (negation y)) x ∙ ap (λ y. holds es y || same e.literal y) (negation-negation e.literal)
          ∙ ap (λ c. c || same e.literal e.literal) h ∙ same-itself e.literal in
          ap (λ y. get_or (set (set vs (index_of e.literal) True) (index_of (negation e.literal)) False) (index_of y) Free) x ∙ both_negated vs n e.literal True False s w ∙ sym (truth_push es e l false true none there)
      | inr d ↦ elim (same_or_not l e.literal) [
        | inl x ↦
            let there : (holds es l || same e.literal l) ≡ true = ap (λ y. holds es y || same e.literal y) x ∙ ap (λ c. c || same e.literal e.literal) h ∙ same-itself e.literal in
            ap (λ y. get_or (set (set vs (index_of e.literal) True) (index_of (negation e.literal)) False) (index_of y) Free) x ∙ both_same vs n e.literal True False s w ∙ sym (truth_push es e l true _ there refl)
        | inr f ↦ both_other vs n e.literal True False s w l f d ∙ a l here ∙ sym (as_before es e l f d)
      ]
    ]

-- ---- no literal stands with its negation
has_variable : (es : List Assigned) (m : Literal) (v : ℕ) → var_of m ≡ v → holds es m ≡ true → list_any (eqb v) (variables es) ≡ true
has_variable [] m v q h = absurd (false≢true h)
has_variable (e ∷ es) m v q h = elim (or_true (same e.literal m) _ h) [
  | inl x ↦ ap (λ b. b || list_any (eqb v) (variables es)) (eq-eqb v (var_of e.literal) (sym q ∙ ap var_of (sym (same-true e.literal m x))))
  | inr x ↦ or_right _ _ (has_variable es m v q x)
]

pub head_alone : (v : ℕ) (vs : List ℕ) → IsDistinct eqb (v ∷ vs) → list_any (eqb v) vs ≡ true → ⊥
head_alone v vs d h = false≢true (sym (list_any_none (eqb v) vs (All-from_recursion _ vs (IsDistinct-head eqb v vs d))) ∙ h)

pub consistent : (es : List Assigned) (l : Literal) → IsDistinct eqb (variables es) → holds es l ≡ true → holds es (negation l) ≡ true → ⊥
consistent [] l d h k = false≢true h
consistent (e ∷ es) l d h k = elim (or_true (same e.literal l) _ h) [
  | inl x ↦ elim (or_true (same e.literal (negation l)) _ k) [
    | inl y ↦ negation_apart l (sym (same-true _ _ y) ∙ same-true _ _ x)
    | inr y ↦ head_alone _ _ d (has_variable es (negation l) (var_of e.literal) (var_of-negation l ∙ ap var_of (sym (same-true e.literal l x))) y)
  ]
  | inr x ↦ elim (or_true (same e.literal (negation l)) _ k) [
    | inl y ↦ head_alone _ _ d (has_variable es l (var_of e.literal) (sym (var_of-negation l) ∙ ap var_of (sym (same-true e.literal (negation l) y))) x)
    | inr y ↦ consistent es l (IsDistinct-tail eqb _ _ d) x y
  ]
]

is_truth : (es : List Assigned) (l : Literal) (a b : Bool) → holds es l ≡ a → holds es (negation l) ≡ b → (a ≡ true → b ≡ true → ⊥) → IsTruth es l (cond a True (cond b False Free))
is_truth es l true true h k d = absurd (d refl refl)
is_truth es l true false h k d = (h, k)
is_truth es l false true h k d = (h, k)
is_truth es l false false h k d = (h, k)

pub reads : (es : List Assigned) (l : Literal) (v : Truth) → IsDistinct eqb (variables es) → v ≡ truth_of es l → IsTruth es l v
reads es l v d e = subst (IsTruth es l) (sym e) (is_truth es l _ _ refl refl (λ h k. consistent es l d h k))

pub distinct_nil : IsDistinct eqb []
unfolding IsDistinct
distinct_nil = tt

-- ---- the last literal taken out
parts : (P : ℕ → Type 0) (vs : List ℕ) (v : ℕ) → AllByRecursion P (vs ++ v ∷ []) → AllByRecursion P vs × P v
parts P [] v h = (tt, h.0)
parts P (x ∷ vs) v h = let r = parts P vs v h.1 in ((h.0, r.0), r.1)

distinct_front : (vs : List ℕ) (v : ℕ) → IsDistinct eqb (vs ++ v ∷ []) → IsDistinct eqb vs × (list_any (eqb v) vs ≡ false)
distinct_front [] v d = (distinct_nil, refl)
distinct_front (x ∷ vs) v d =
    let r = distinct_front vs v (IsDistinct-tail eqb x _ d) in
    let h = parts (λ y. eqb x y ≡ false) vs v (IsDistinct-head eqb x _ d) in (
      IsDistinct-cons eqb x vs h.0 r.0,
      ap (λ b. b || list_any (eqb v) vs) (ne_eqb v x (λ q. eqb-false x v h.1 (sym q))) ∙ r.1,
    )

pub apart_pop : (es : List Assigned) (e : Assigned) → IsDistinct eqb (variables (es ++ e ∷ [])) → IsDistinct eqb (variables es) × (list_any (eqb (var_of e.literal)) (variables es) ≡ false)
apart_pop es e d = distinct_front _ _ (rw map-append at d)

no_literal : (es : List Assigned) (m : Literal) (v : ℕ) → var_of m ≡ v → list_any (eqb v) (variables es) ≡ false → holds es m ≡ false
no_literal es m v q h = go (holds es m) refl where
  go : (b : Bool) → holds es m ≡ b → b ≡ false
  go true e = absurd (false≢true (sym h ∙ has_variable es m v q e))
  go false e = refl

pub agrees_pop : (es : List Assigned) (e : Assigned) (vs : List Truth) (n : ℕ) → length vs ≡ 2 * n + 2 → IsDistinct eqb (variables (es ++ e ∷ [])) → ((l : Literal) → IsWithin n l → get_or vs (index_of l) Free ≡ truth_of (es ++ e ∷ []) l) → IsWithin n e.literal
    → (l : Literal) → IsWithin n l → get_or (set (set vs (index_of e.literal) Free) (index_of (negation e.literal)) Free) (index_of l) Free ≡ truth_of es l
agrees_pop es e vs n s d a w l here =
    let p = apart_pop es e d in
    let h = no_literal es e.literal _ refl p.1 in
    let k = no_literal es (negation e.literal) _ (var_of-negation e.literal) p.1 in
    elim (same_or_not l (negation e.literal)) [
      | inl x ↦
          ap (λ y. get_or (set (set vs (index_of e.literal) Free) (index_of (negation e.literal)) Free) (index_of y) Free) x ∙ both_negated vs n e.literal Free Free s w
          ∙ sym (ap (truth_of es) x ∙ ap (λ c. truth c (holds es (negation (negation e.literal)))) k ∙ ap (truth false) (ap (holds es) (negation-negation e.literal) ∙ h))
      | inr g ↦ elim (same_or_not l e.literal) [
        | inl x ↦
            ap (λ y. get_or (set (set vs (index_of e.literal) Free) (index_of (negation e.literal)) Free) (index_of y) Free) x ∙ both_same vs n e.literal Free Free s w
            ∙ sym (ap (truth_of es) x ∙ ap (λ c. truth c (holds es (negation e.literal))) h ∙ ap (truth false) k)
        | inr f ↦ both_other vs n e.literal Free Free s w l f g ∙ a l here ∙ as_before es e l f g
      ]
    ]

-- ---- levels rise
abbrev Rising : List Assigned → Type 0
Rising es = (i j : ℕ) (d : Assigned) → i ≤ j → j < length es → (get_or es i d).level ≤ (get_or es j d).level

pub rising_push : (es : List Assigned) (e : Assigned) → Rising es → All (λ x. x.level ≤ e.level) es → Rising (es ++ e ∷ [])
rising_push es e r a i j d l b =
    let n = length-append es (e ∷ []) in
    elim (cases_eq j (length es)) [
      | inl q ↦ elim (cases_eq i (length es)) [
        | inl p ↦ rw (p, q) (omega arith)
        | inr p ↦
            let g : i < length es = omega arith in
            let x : (get_or (es ++ e ∷ []) i d).level ≤ e.level = rw (get_or_append_left es (e ∷ []) d i g) (a i d g) in
            let y : get_or (es ++ e ∷ []) j d ≡ e = get_or_at es e [] d j (sym q) in
            rw y x
      ]
      | inr q ↦ rw (get_or_append_left es (e ∷ []) d i (omega arith), get_or_append_left es (e ∷ []) d j (omega arith)) (r i j d l (omega arith))
    ]

pub rising_front : (es more : List Assigned) → Rising (es ++ more) → Rising es
rising_front es more r i j d l b = rw (← get_or_append_left es more d i (omega arith), ← get_or_append_left es more d j (omega arith)) (r i j d l (omega (arith, length-append es more)))

pub all_front : (P : Assigned → Type 0) (es more : List Assigned) → All P (es ++ more) → All P es
all_front P es more h k d l = subst P (get_or_append_left es more d k l) (h k d (omega (arith, length-append es more)))

pub all_last : (P : Assigned → Type 0) (es : List Assigned) (e : Assigned) → All P (es ++ e ∷ []) → P e
all_last P es e h = subst P (get_or_at es e [] e (length es) refl) (h (length es) e (omega (arith, length-append es (e ∷ []))))

-- ---- the table of places
abbrev Found : List Assigned → List ℕ → Type 0
Found es ps = (i : ℕ) (d : Assigned) → i < length es → get_or ps (var_of (get_or es i d).literal) 0 ≡ i

-- an entry that has a variable is among those with it
variable_at : (es : List Assigned) (i : ℕ) (d : Assigned) → i < length es → list_any (eqb (var_of (get_or es i d).literal)) (variables es) ≡ true
variable_at [] i d l = absurd (omega arith)
variable_at (e ∷ es) zero d l = ap (λ b. b || list_any (eqb (var_of e.literal)) (variables es)) (eq-eqb (var_of e.literal) _ refl)
variable_at (e ∷ es) (suc i) d l = or_right _ _ (variable_at es i d (omega arith))

pub found_push : (es : List Assigned) (e : Assigned) (ps : List ℕ) → Found es ps → var_of e.literal < length ps → holds es e.literal ≡ false → holds es (negation e.literal) ≡ false → Found (es ++ e ∷ []) (set ps (var_of e.literal) (length es))
found_push es e ps f b h k i d l =
    let n = length-append es (e ∷ []) in
    elim (cases_eq i (length es)) [
      | inl q ↦ rw (get_or_at es e [] d i (sym q), q) (get_or-set_same ps (var_of e.literal) (length es) 0 b)
      | inr q ↦
          let g : i < length es = omega arith in
          rw (get_or_append_left es (e ∷ []) d i g)
          (get_or-set_other ps (var_of e.literal) (var_of (get_or es i d).literal) (length es) 0
          (λ x. false≢true (sym (no_variable es e.literal h k) ∙ subst (λ v. list_any (eqb v) (variables es) ≡ true) x (variable_at es i d g))) ∙ f i d g)
    ]

pub found_front : (es more : List Assigned) (ps : List ℕ) → Found (es ++ more) ps → Found es ps
found_front es more ps f i d l = rw (← get_or_append_left es more d i l) (f i d (omega (arith, length-append es more)))

-- a literal of the trail has an entry
pub holds_at : (es : List Assigned) (l : Literal) → holds es l ≡ true → (i : ℕ) × (i < length es) × ((d : Assigned) → (get_or es i d).literal ≡ l)
holds_at [] l h = absurd (false≢true h)
holds_at (e ∷ es) l h = elim (or_true (same e.literal l) _ h) [
  | inl x ↦ (0, suc-le-suc zero-le, λ d. same-true _ _ x)
  | inr x ↦ let r = holds_at es l x in (suc r.0, omega (arith, r.1), r.2)
]

pub holds_within : (es : List Assigned) (n : ℕ) (l : Literal) → All (λ e. IsWithin n e.literal) es → holds es l ≡ true → IsWithin n l
holds_within es n l a h =
    let r = holds_at es l h in
    let d : Assigned = record { literal = l; level = 0; reason = None } in
    subst (IsWithin n) (r.2 d) (a r.0 d r.1)

-- where the entry of a literal of the trail stands
pub place_of : (es : List Assigned) (ps : List ℕ) (l : Literal) → Found es ps → holds es l ≡ true → (get_or ps (var_of l) 0 < length es) × ((d : Assigned) → (get_or es (get_or ps (var_of l) 0) d).literal ≡ l)
place_of es ps l f h =
    let r = holds_at es l h in
    let d : Assigned = record { literal = l; level = 0; reason = None } in
    let e : get_or ps (var_of l) 0 ≡ r.0 = ap (λ x. get_or ps (var_of x) 0) (sym (r.2 d)) ∙ f r.0 d r.1 in
    (subst (λ i. i < length es) (sym e) r.1, subst (λ i. (d : Assigned) → (get_or es i d).literal ≡ l) (sym e) r.2)
