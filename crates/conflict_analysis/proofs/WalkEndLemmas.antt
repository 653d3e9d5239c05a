-- What holds when a walk ends.
use Rattle.std.proofs.Common.{◌≡◌, ◌≢◌, ℕ, ◌-◌, ◌<◌, ◌≤◌, inl, inr, Bool, true, false, not, cond, eqb, ◌&&◌, List, [], ◌∷◌, ◌++◌, length, length-append, get_or, take, drop, reverse, refl, ap, sym, ◌∙◌, subst, arith, append_assoc, Option, Some, None}
use Rattle.std.specs.Prelude.{nat_le}
use Rattle.std.specs.List.{All, Contains, IsDistinct, filter_map, cons_option}
use Rattle.std.proofs.lemmas.List.{get_or_at, take-append-drop, take-append-le, take_all, drop_all, get_or-take, length-take, reverse-reverse}
use Rattle.std.proofs.lemmas.List.Elements.{All-contains, Contains-get_or, filter_map-append}
use Rattle.std.proofs.lemmas.Bool.{cases_Bool, cases_lt, both_ways, or_left, or_right, or_cases, and_parts, and_from, and_left, false≢true, false_from_ne_true, eq-eqb, le-leb, leb-true}
use Rattle.dimacs.specs.logic.ClauseMap.{Live}
use Rattle.dimacs.specs.logic.Literal.{Literal, Clause, IsWithin, negation, same, var_of}
use Rattle.dimacs.specs.logic.Propagation.{IsFalse, Rup, negations}
use Rattle.dimacs.proofs.LiteralLemmas.{same-true, same-is, negation-negation, var_of-negation, IsWithin-negation}
use Rattle.dimacs.proofs.Members.{Contains-head, Contains-cons, Contains-cons_cases, Contains-nil, Contains-has}
use Rattle.watches.specs.Trails.{holds, up_to, present, variables}
use Rattle.watches.specs.declared.trail.Assigned.{Assigned}
use Rattle.watches.proofs.TrailLemmas.{consistent}
use Rattle.watches.proofs.LevelLemmas.{le_present}
use Rattle.conflict_analysis.specs.Lemmas.{IsAsserting, AreInTrailOrder}
use Rattle.conflict_analysis.specs.inner.TrailWalk.{waiting, is_present, is_lower, reason_number, hints_of, resolved_of, HasLevel, IsResolved, AreCounted, AreWalked, IsLevelled}
use Rattle.conflict_analysis.proofs.EntryLemmas.{one_if, holds_from_entry, entry_from_holds, one_entry, waiting_some, waiting_cons}
use Rattle.conflict_analysis.proofs.RupLemmas.{AreClosed, either, walk_is_rup}

-- ---- hints of a list
hints_of-append : (test : Literal → Bool) (xs ys : List Assigned) → hints_of test (xs ++ ys) ≡ hints_of test xs ++ hints_of test ys
hints_of-append test [] ys = refl
hints_of-append test (x ∷ xs) ys = go (hints_of-append test xs ys) (test x.literal)
  where
    go : hints_of test (xs ++ ys) ≡ hints_of test xs ++ hints_of test ys → (b : Bool)
        → cond b (reason_number x.reason ∷ hints_of test (xs ++ ys)) (hints_of test (xs ++ ys)) ≡ cond b (reason_number x.reason ∷ hints_of test xs) (hints_of test xs) ++ hints_of test ys
    go h true = ap (λ ns. reason_number x.reason ∷ ns) h
    go h false = h

hints_none : (test : Literal → Bool) (xs : List Assigned) → ((e : Assigned) → Contains xs e → test e.literal ≡ true → ⊥) → hints_of test xs ≡ []
hints_none test [] h = refl
hints_none test (x ∷ xs) h =
    ap (λ b. cond b (reason_number x.reason ∷ hints_of test xs) (hints_of test xs)) (false_from_ne_true (test x.literal) (h x (Contains-head x xs)))
    ∙ hints_none test xs (λ e i. h e (Contains-cons x e xs i))

pub hints_agree : (test : Literal → Bool) (hint : Assigned → Option ℕ) (xs : List Assigned) → ((e : Assigned) → Contains xs e → hint e ≡ cond (test e.literal) (Some (reason_number e.reason)) None)
    → filter_map hint xs ≡ hints_of test xs
hints_agree test hint [] h = refl
hints_agree test hint (x ∷ xs) h = filter_map-append hint (x ∷ []) xs ∙ go (hints_agree test hint xs (λ e i. h e (Contains-cons x e xs i))) (test x.literal) (h x (Contains-head x xs))
  where
    go : filter_map hint xs ≡ hints_of test xs → (b : Bool) → hint x ≡ cond b (Some (reason_number x.reason)) None
        → filter_map hint (x ∷ []) ++ filter_map hint xs ≡ cond b (reason_number x.reason ∷ hints_of test xs) (hints_of test xs)
    go h true q = ap (λ o. cons_option o [] ++ filter_map hint xs) q ∙ ap (λ ns. reason_number x.reason ∷ ns) h
    go h false q = ap (λ o. cons_option o [] ++ filter_map hint xs) q ∙ h

-- ---- what is settled place by place is closed
module _ (live : Live) (es : List Assigned) (seen : ℕ → Bool) (test : Literal → Bool)
    (settled : (k : ℕ) (d : Assigned) → k < length es → test (get_or es k d).literal ≡ true → IsResolved live (take k es) seen (get_or es k d)) where
  at_front : (front rest : List Assigned) (e : Assigned) → es ≡ front ++ e ∷ rest → test e.literal ≡ true → IsResolved live front seen e
  at_front front rest e q h =
      let k = length front in
      let l : k < length es = let n = length-append front (e ∷ rest) in subst (λ xs. k < length xs) (sym q) (omega (arith, n)) in
      let at : get_or es k e ≡ e = subst (λ xs. get_or xs k e ≡ e) (sym q) (get_or_at front e rest e k refl) in
      let before : take k es ≡ front = subst (λ xs. take k xs ≡ front) (sym q) (take-append-le (length front) front (e ∷ rest) (omega arith) ∙ take_all (length front) front (omega arith)) in
      subst (λ xs. IsResolved live xs seen e) before (subst (λ x. IsResolved live (take k es) seen x) at (settled k e l (subst (λ (x : Assigned). test x.literal ≡ true) (sym at) h)))

  closed_from : (front rest : List Assigned) → es ≡ front ++ rest → AreClosed live seen test front rest
  closed_from front [] q = tt
  closed_from front (e ∷ rest) q = (λ h. at_front front rest e q h, closed_from (front ++ e ∷ []) rest (q ∙ sym (append_assoc front (e ∷ []) rest)))

  pub settled_front : AreClosed live seen test [] es
  settled_front = closed_from [] es refl

-- ---- the trail cut to a level
up_to_entry : (es : List Assigned) (e : Assigned) (k : ℕ) → Contains es e → e.level ≤ k → up_to es k e.literal ≡ true
up_to_entry [] e k i l = absurd (Contains-nil e i)
up_to_entry (x ∷ xs) e k i l = elim (Contains-cons_cases x e xs i) [
  | inl q ↦ or_left (same x.literal e.literal && nat_le x.level k) (up_to xs k e.literal) (and_from (same x.literal e.literal) (nat_le x.level k)
      (same-is x.literal e.literal (ap (λ (y : Assigned). y.literal) q)) (le-leb x.level k (subst (λ (y : Assigned). y.level ≤ k) (sym q) l)))
  | inr c ↦ or_right (same x.literal e.literal && nat_le x.level k) (up_to xs k e.literal) (up_to_entry xs e k c l)
]

entry_up_to : (es : List Assigned) (l : Literal) (k : ℕ) → up_to es k l ≡ true → (e : Assigned) × Contains es e × (e.literal ≡ l) × (e.level ≤ k)
entry_up_to [] l k h = absurd (false≢true h)
entry_up_to (x ∷ xs) l k h = elim (or_cases (same x.literal l && nat_le x.level k) (up_to xs k l) h) [
  | inl t ↦ let p = and_parts (same x.literal l) (nat_le x.level k) t in (x, Contains-head x xs, same-true x.literal l p.0, leb-true x.level k p.1)
  | inr t ↦ let r = entry_up_to xs l k t in (r.0, Contains-cons x r.0 xs r.1, r.2, r.3)
]

-- a literal's level is above k
pub above_cut : (es : List Assigned) (e : Assigned) (k : ℕ) → IsDistinct eqb (variables es) → Contains es e → k < e.level → up_to es k e.literal ≡ false
above_cut es e k apart i l = false_from_ne_true (up_to es k e.literal) (λ t.
    let r = entry_up_to es e.literal k t in
    let q = one_entry es r.0 e apart r.1 i (ap var_of r.2) in
    let b : e.level ≤ k = subst (λ (y : Assigned). y.level ≤ k) q r.3 in
    omega (arith, l, b))

module _ (live : Live) (es : List Assigned) (apart : IsDistinct eqb (variables es)) (seen : ℕ → Bool) (i level : ℕ) (lits : Clause) (hints : List ℕ)
    (w : AreCounted es (take i es) seen 0 0) (walked : AreWalked live es i seen lits hints) (levels : IsLevelled es 0 lits level) where
  abbrev resolved : Literal → Bool
  resolved = resolved_of es seen lits

  pub on_trail : (l : Literal) → Contains lits l → holds es (negation l) ≡ true
  on_trail l h =
      let r = walked.kept l h in
      let e : Assigned = record { literal = l; level = 0; reason = None } in
      subst (λ k. holds es k ≡ true) (r.3 e) (holds_from_entry es (get_or es r.0 e) (Contains-get_or es r.0 e r.2))

  -- nothing was met that is still to be walked
  front_none : (e : Assigned) → Contains (take i es) e → seen (var_of e.literal) ≡ true → ⊥
  front_none e c s = elim (cases_Bool (is_present es e.level)) [
    | inl t ↦ let a = waiting_some (take i es) seen (is_present es) e c s t in let b = w.opened in omega (arith, a, b)
    | inr t ↦ let a = waiting_some (take i es) seen (is_lower es) e c s (ap not t) in let b = w.remaining in omega (arith, a, b)
  ]

  settled_entry : (k : ℕ) (d : Assigned) → k < length es → resolved (get_or es k d).literal ≡ true → IsResolved live (take k es) seen (get_or es k d)
  settled_entry k d l h =
      let e = get_or es k d in
      let a = and_parts (holds es e.literal) (seen (var_of e.literal) && not (negations lits e.literal)) h in
      let b = and_parts (seen (var_of e.literal)) (not (negations lits e.literal)) a.1 in
      elim (cases_lt k i) [
        | inl c ↦ absurd (front_none e (subst (Contains (take i es)) (get_or-take i es k d c) (Contains-get_or (take i es) k d (let n = length-take i es in omega (arith, n, c, l)))) b.0)
        | inr c ↦ elim (walked.each k d c l b.0) [
          | inl t ↦ absurd (clash (negations lits e.literal) (Contains-has lits (negation e.literal) t) b.1)
          | inr t ↦ t
        ]
      ]
    where
      clash : (b : Bool) → b ≡ true → not b ≡ true → ⊥
      clash true h n = false≢true n
      clash false h n = false≢true h

  unresolved : (e : Assigned) → Contains (take i es) e → resolved e.literal ≡ true → ⊥
  unresolved e c h =
      let a = and_parts (holds es e.literal) (seen (var_of e.literal) && not (negations lits e.literal)) h in
      front_none e c (and_parts (seen (var_of e.literal)) (not (negations lits e.literal)) a.1).0

  pub hints_are : reverse hints ≡ hints_of resolved es
  hints_are =
      ap reverse walked.named
      ∙ reverse-reverse (hints_of resolved (drop i es))
      ∙ sym (ap (λ ns. ns ++ hints_of resolved (drop i es)) (hints_none resolved (take i es) unresolved))
      ∙ sym (hints_of-append resolved (take i es) (drop i es))
      ∙ ap (hints_of resolved) (take-append-drop i es)

  -- what is resolved has its reason for a hint
  reasons : (e : Assigned) → Contains es e → cond (resolved e.literal) e.reason None ≡ cond (resolved e.literal) (Some (reason_number e.reason)) None
  reasons e c = go (resolved e.literal) refl
    where
      go : (b : Bool) → resolved e.literal ≡ b → cond b e.reason None ≡ cond b (Some (reason_number e.reason)) None
      go false r = refl
      go true r =
          let s = settled_entry c.0 e c.1 (subst (λ (x : Assigned). resolved x.literal ≡ true) (sym c.2) r) in
          let q : e.reason ≡ Some s.number = subst (λ (x : Assigned). x.reason ≡ Some s.number) c.2 s.reason in
          q ∙ ap Some (sym (ap reason_number q))

  pub ordered : (number : ℕ) → AreInTrailOrder es number (reverse hints ++ number ∷ [])
  ordered number = (resolved, ap (λ ns. ns ++ number ∷ []) (hints_are ∙ sym (hints_agree resolved (λ e. cond (resolved e.literal) e.reason None) es reasons)))

  -- ---- the lemma
  pub follows : (C : Clause) (number : ℕ) → live number C → IsFalse (holds es) C → ((k : Literal) → Contains C k → seen (var_of k) ≡ true)
      → Rup live lits (reverse hints ++ number ∷ [])
  follows C number lives false_ all =
      subst (λ ns. Rup live lits (ns ++ number ∷ [])) (sym hints_are)
      (walk_is_rup live es seen lits not_here no_pair C number lives
      (λ k i. either live es seen lits not_here no_pair (negation k) (false_ k i) (subst (λ v. seen v ≡ true) (sym (var_of-negation k)) (all k i)))
      (settled_front live es seen resolved settled_entry))
    where
      not_here : (l : Literal) → Contains lits l → holds es l ≡ true → ⊥
      not_here l c h = consistent es l apart h (on_trail l c)

      no_pair : (l : Literal) → Contains lits l → Contains lits (negation l) → ⊥
      no_pair l c d = consistent es (negation l) apart (on_trail l c) (on_trail (negation l) d)

  pub lemma_within : (vars : ℕ) → All (λ e. IsWithin vars e.literal) es → All (IsWithin vars) lits
  lemma_within vars a = λ k d l.
      let x = get_or lits k d in
      let r = entry_from_holds es (negation x) (on_trail x (Contains-get_or lits k d l)) in
      let b = All-contains (λ e. IsWithin vars e.literal) es r.0 a r.1 in
      subst (IsWithin vars) (ap negation r.2 ∙ negation-negation x) (IsWithin-negation vars r.0.literal b)

  pub asserting : 0 < present es → IsAsserting es lits level
  asserting above = go lits levels
    where
      -- two levels of one literal are the same
      one_level : (l : Literal) (m n : ℕ) → HasLevel es l m → HasLevel es l n → m ≡ n
      one_level l m n (e, c, q, x) (f, d, r, y) = sym x ∙ ap (λ (z : Assigned). z.level) (one_entry es e f apart c d (ap var_of (q ∙ sym r))) ∙ y

      go : (ls : Clause) → IsLevelled es 0 ls level → IsAsserting es ls level
      go [] (some, z) = absurd (omega (arith, some))
      go (p ∷ ls) (none, (e, c, q, x), others, reached) =
          let differs : (k : Literal) (n : ℕ) → HasLevel es k n → n < present es → k ≢ p = λ k n h l s. let y = one_level k n (present es) h (e, c, q ∙ ap negation (sym s), x) in omega (arith, l, y) in
          record {
            literal = p;
            member = Contains-head p ls;
            is_false = subst (λ k. holds es k ≡ true) q (holds_from_entry es e c);
            is_present = subst (λ k. up_to es (present es - 1) k ≡ false) q (above_cut es e (present es - 1) apart c (omega (arith, x, above)));
            below = elim reached [
              | inl z ↦ omega (arith, z, above)
              | inr (k, j, h) ↦ let (n, g, l, m) = others k j in let y = one_level k n level g h in omega (arith, y, l)
            ];
            others = λ k j n. elim (Contains-cons_cases p k ls j) [
              | inl s ↦ absurd (n (sym s))
              | inr j ↦ let (m, (f, d, r, y), l, b) = others k j in subst (λ t. up_to es level t ≡ true) r (up_to_entry es f level d (omega (arith, y, b)))
            ];
            reached = elim reached [
              | inl z ↦ inl z
              | inr (k, j, (f, d, r, y)) ↦ inr (
                k,
                Contains-cons p k ls j,
                differs k level (f, d, r, y) (let (n, g, l, m) = others k j in let s = one_level k n level g (f, d, r, y) in omega (arith, s, l)),
                (λ m l. subst (λ t. up_to es m t ≡ false) r (above_cut es f m apart d (omega (arith, l, y)))),
              )
            ];
          }

-- ---- the beginning
none_distinct : IsDistinct same []
unfolding IsDistinct
none_distinct = tt

pub begins : (es : List Assigned) (f : ℕ → Bool) → ((v : ℕ) → f v ≡ false) → AreCounted es es f 0 0
begins es f none = record {
  opened = sym (zero_waiting (is_present es) es);
  remaining = sym (zero_waiting (is_lower es) es);
}
  where
    zero_waiting : (at : ℕ → Bool) (xs : List Assigned) → waiting f at xs ≡ 0
    zero_waiting at [] = refl
    zero_waiting at (x ∷ xs) =
        let a = waiting_cons f at x xs in
        let b : one_if (f (var_of x.literal) && at x.level) ≡ 0 = ap one_if (and_left (f (var_of x.literal)) (at x.level) (none (var_of x.literal))) in
        let c = zero_waiting at xs in
        omega (arith, a, b, c)

-- nothing is walked at the trail's end
pub nothing_walked : (live : Live) (es : List Assigned) (f : ℕ → Bool) → AreWalked live es (length es) f [] []
nothing_walked live es f = record {
  each = λ k d le l m. absurd (omega (arith, le, l));
  kept = λ l c. absurd (Contains-nil l c);
  named = sym (ap (λ xs. reverse (hints_of (resolved_of es f []) xs)) (drop_all (length es) es (omega arith)));
  distinct = none_distinct;
}

-- a clause that is false has a literal that is not yet false below
unless_false : (α : Literal → Bool) (C : Clause) → (IsFalse α C → ⊥) → (k : Literal) × Contains C k × (α (negation k) ≡ false)
unless_false α [] n = absurd (n (λ k i. absurd (Contains-nil k i)))
unless_false α (x ∷ C) n = elim (cases_Bool (α (negation x))) [
  | inr f ↦ (x, Contains-head x C, f)
  | inl t ↦
      let r = unless_false α C (λ h. n (λ k i. elim (Contains-cons_cases x k C i) [ inl q ↦ subst (λ y. α (negation y) ≡ true) q t | inr c ↦ h k c ])) in
      (r.0, Contains-cons x r.0 C r.1, r.2)
]

-- once a false clause of the present level was met, some entry of that level waits
pub some_waits : (es : List Assigned) (f : ℕ → Bool) (C : Clause) (o : ℕ) → o ≡ waiting f (is_present es) es → IsFalse (holds es) C → (IsFalse (up_to es (present es - 1)) C → ⊥)
    → ((k : Literal) → Contains C k → f (var_of k) ≡ true) → 0 < present es → 0 < o
some_waits es f C o w false_ here all above =
    let r = unless_false (up_to es (present es - 1)) C here in
    let e = entry_from_holds es (negation r.0) (false_ r.0 r.1) in
    let high : present es ≤ e.0.level = elim (cases_lt (present es - 1) e.0.level) [
      | inl l ↦ omega (arith, l)
      | inr g ↦ absurd (both_ways (up_to es (present es - 1) (negation r.0)) r.2 (subst (λ k. up_to es (present es - 1) k ≡ true) e.2 (up_to_entry es e.0 (present es - 1) e.1 g)))
    ] in
    let low = All-contains (λ x. x.level ≤ present es) es e.0 (le_present es) e.1 in
    let level : e.0.level ≡ present es = same_level e.0.level (present es) high low in
    let s = waiting_some es f (is_present es) e.0 e.1 (ap (λ k. f (var_of k)) e.2 ∙ ap f (var_of-negation r.0) ∙ all r.0 r.1) (eq-eqb e.0.level (present es) level) in
    omega (arith, s, w)
  where
    same_level : (m n : ℕ) → n ≤ m → m ≤ n → m ≡ n
    same_level m n a b = omega (arith, a, b)
