-- A clause that is attached: both of its watches are pending.
use Rattle.std.proofs.Common.{◌≡◌, ◌≢◌, ℕ, ◌+◌, ◌*◌, ◌-◌, ◌/◌, ◌%◌, ◌<◌, ◌≤◌, ◌⊎◌, inl, inr, cond, eqb, List, [], ◌∷◌, ◌++◌, length, get_or, refl, ap, sym, ◌∙◌, subst, arith, All, length-append}
use Rattle.std.specs.List.{IsDistinct}
use Rattle.std.proofs.lemmas.Bool.{cases_eq, cases_lt, ne_eqb}
use Rattle.std.proofs.lemmas.List.{get_or_append_left, get_or_push}
use Rattle.std.proofs.lemmas.List.Elements.{All-push}
use Rattle.dimacs.specs.logic.Literal.{Literal, Clause, IsWithin, same, index_of}
use Rattle.clause_arena.specs.declared.reference.Ref.{Ref}
use Rattle.clause_arena.specs.Clauses.{Clauses, RefersTo}
use Rattle.clause_arena.proofs.ClauseLaws.{stands_once}
use Rattle.watches.specs.Trails.{TrailValue}
use Rattle.watches.specs.inner.LiveClauses.{IsLiveWithin}
use Rattle.watches.specs.declared.watched.watch.Watch.{Watch}
use Rattle.watches.specs.inner.WatchLists.{literal_at, next_of, twin, last_of, IsIn, IsLink, IsOnce, IsWatchList, AreWatchLists, AppendsTwo}
use Rattle.watches.specs.inner.Ready.{AreNamed}
use Rattle.watches.specs.inner.WatchInvariants.{owner, no_clause, IsGuarded, IsPendingOrGuarded, IsLong, IsRootSatisfied, IsWatching, AreWatching}
use Rattle.watches.proofs.WatchListLemmas.{in_left, in_right, in_either, last_in, last_push, once_push, chain_kept, chain_two, last_link, cell_apart}
use Rattle.watches.proofs.TwinLemmas.{twins_of, twin_even, twin_odd}
use Rattle.watches.proofs.SwapLemmas.{apart_at}
use Rattle.watches.proofs.PendingLemmas.{index_high}
use Rattle.watches.specs.Watches.{Watches}

-- one clause more, of another number
pub named_push : (clauses : List Ref) (at : Ref) → AreNamed clauses → ((i : ℕ) → i < length clauses → (get_or clauses i no_clause).number ≢ at.number) → AreNamed (clauses ++ at ∷ [])
named_push clauses at h fresh i j hi hj e =
    let n = length-append clauses (at ∷ []) in
    elim (cases_lt i (length clauses)) [
      | inl li ↦ elim (cases_lt j (length clauses)) [
        | inl lj ↦ h i j li lj (ap (λ (r : Ref). r.number) (sym (get_or_append_left clauses (at ∷ []) no_clause i li)) ∙ e ∙ ap (λ (r : Ref). r.number) (get_or_append_left clauses (at ∷ []) no_clause j lj))
        | inr gj ↦ absurd (fresh i li (ap (λ (r : Ref). r.number) (sym (get_or_append_left clauses (at ∷ []) no_clause i li)) ∙ e ∙ ap (λ (r : Ref). r.number) (get_or_push clauses at no_clause j (omega arith))))
      ]
      | inr gi ↦ elim (cases_lt j (length clauses)) [
        | inl lj ↦ absurd (fresh j lj (ap (λ (r : Ref). r.number) (sym (get_or_append_left clauses (at ∷ []) no_clause j lj)) ∙ sym e ∙ ap (λ (r : Ref). r.number) (get_or_push clauses at no_clause i (omega arith))))
        | inr gj ↦ omega arith
      ]
    ]

pub record Appends (old new : List Watch) (base : ℕ) (C : Clause) : Type 0 where
  pub long : length new ≡ length old + 2
  pub first : next_of new (next_of old (base / 2)) ≡ length old
  pub second : next_of new (length old) ≡ length old + 1
  pub third : next_of new (length old + 1) ≡ 0
  pub last : next_of new (base / 2) ≡ length old + 1
  pub others : (q : ℕ) → q ≢ next_of old (base / 2) → q ≢ base / 2 → q < length old → next_of new q ≡ next_of old q
  pub literals : (q : ℕ) → q < length old → literal_at new q ≡ literal_at old q
  pub one : (d : Literal) → 2 ≤ length C → literal_at new (length old) ≡ get_or C 0 d
  pub two : (d : Literal) → 2 ≤ length C → literal_at new (length old + 1) ≡ get_or C 1 d

pub appends : (old new : List Watch) (base : ℕ) (C : Clause) (a b : Literal) → AppendsTwo old new base a b → ((d : Literal) → 2 ≤ length C → (a ≡ get_or C 0 d) × (b ≡ get_or C 1 d)) → Appends old new base C
appends old new base C a b h g = record { long = h.long; first = h.first; second = h.second; third = h.third; last = h.last; others = h.others; literals = h.literals; one = λ d l. h.literal_one ∙ (g d l).0; two = λ d l. h.literal_two ∙ (g d l).1 }

module _ (W : Watches) (ys : List Watch) (m : Clauses) (t : TrailValue) (paths : ℕ → List ℕ) (w : IsWatching W m t paths)
    (whole : length W.places ≡ W.base + 2 * length W.clauses) (at : Ref) (C : Clause) (st : RefersTo m at C) (within : All (IsWithin t.vars) C) (differ : IsDistinct same C)
    (fresh : (i : ℕ) → i < length W.clauses → (get_or W.clauses i no_clause).number ≢ at.number) (a : Appends W.places ys W.base C) where
  abbrev more : Watches
  more = record W { places = ys; clauses = W.clauses ++ at ∷ [] }

  abbrev with_two : ℕ → List ℕ
  with_two k = cond (eqb k 0) ((paths 0 ++ length W.places ∷ []) ++ (length W.places + 1) ∷ []) (paths k)

  elsewhere_same : (k : ℕ) → k ≢ 0 → with_two k ≡ paths k
  elsewhere_same k n = ap (λ b. cond b ((paths 0 ++ length W.places ∷ []) ++ (length W.places + 1) ∷ []) (paths k)) (ne_eqb k 0 n)

  high : 0 < W.base / 2
  high = let b = w.wide in omega arith

  still : (q k : ℕ) → IsIn q (paths k) → IsIn q (with_two k)
  still q k h = elim (cases_eq k 0) [
    | inl e ↦ subst (λ j. IsIn q (with_two j)) (sym e) (in_left q (paths 0 ++ length W.places ∷ []) ((length W.places + 1) ∷ []) (in_left q (paths 0) (length W.places ∷ []) (subst (λ j. IsIn q (paths j)) e h)))
    | inr n ↦ subst (IsIn q) (sym (elsewhere_same k n)) h
  ]

  was : (q k : ℕ) → IsIn q (with_two k) → ((k ≡ 0) × ((q ≡ length W.places) ⊎ (q ≡ length W.places + 1))) ⊎ IsIn q (paths k)
  was q k h = elim (cases_eq k 0) [
    | inl e ↦ elim (in_either q (paths 0 ++ length W.places ∷ []) ((length W.places + 1) ∷ []) (subst (λ j. IsIn q (with_two j)) e h)) [
      | inl y ↦ elim (in_either q (paths 0) (length W.places ∷ []) y) [
        | inl z ↦ inr (subst (λ j. IsIn q (paths j)) (sym e) z)
        | inr z ↦ elim z [ inl x ↦ inl (e, inl x) | inr v ↦ absurd v ]
      ]
      | inr y ↦ elim y [ inl x ↦ inl (e, inr x) | inr v ↦ absurd v ]
    ]
    | inr n ↦ inr (subst (IsIn q) (elsewhere_same k n) h)
  ]

  old_low : (q k : ℕ) → IsIn q (paths k) → (W.base ≤ q) × (q < length W.places)
  old_low q k h = w.lists.real k q h

  once : (k : ℕ) → IsOnce (with_two k)
  once k = elim (cases_eq k 0) [
    | inl e ↦ subst (λ j. IsOnce (with_two j)) (sym e) (once_push (length W.places + 1) (paths 0 ++ length W.places ∷ [])
        (once_push (length W.places) (paths 0) (w.lists.once 0) (λ h. let b = old_low (length W.places) 0 h in omega (arith, b.1)))
        (λ h. elim (in_either (length W.places + 1) (paths 0) (length W.places ∷ []) h) [
          | inl y ↦ let b = old_low (length W.places + 1) 0 y in omega (arith, b.1)
          | inr z ↦ elim z [ inl x ↦ omega (arith, x) | inr v ↦ v ]
        ]))
    | inr n ↦ subst IsOnce (sym (elsewhere_same k n)) (w.lists.once k)
  ]

  new_only : (q k : ℕ) → length W.places ≤ q → IsIn q (with_two k) → k ≡ 0
  new_only q k l h = elim (was q k h) [ inl x ↦ x.0 | inr y ↦ absurd (let b = old_low q k y in omega (arith, b.1)) ]

  apart_chains : (k j q : ℕ) → IsIn q (with_two k) → IsIn q (with_two j) → k ≡ j
  apart_chains k j q h i = elim (cases_lt q (length W.places)) [
    | inl l ↦ elim (was q k h) [
      | inl x ↦ absurd (elim x.1 [ inl y ↦ omega (arith, y) | inr y ↦ omega (arith, y) ])
      | inr x ↦ elim (was q j i) [
        | inl y ↦ absurd (elim y.1 [ inl z ↦ omega (arith, z) | inr z ↦ omega (arith, z) ])
        | inr y ↦ w.lists.apart k j q x y
      ]
    ]
    | inr l ↦ new_only q k l h ∙ sym (new_only q j l i)
  ]

  -- the last place of the pending list
  end_is : next_of W.places (W.base / 2) ≡ last_of 0 (paths 0)
  end_is = ap (next_of W.places) (let z : W.base / 2 ≡ W.base / 2 + 0 = omega arith in z) ∙ w.lists.ends 0 high

  end_link : IsLink W.base (next_of W.places (W.base / 2))
  end_link = subst (IsLink W.base) (sym end_is) (last_link W.base 0 (paths 0) high (λ q i. (old_low q 0 i).0))

  -- a place of another list is not the last one of the pending list
  not_end : (q k : ℕ) → k ≢ 0 → IsIn q (paths k) → q ≢ next_of W.places (W.base / 2)
  not_end q k n h e = elim (last_in 0 (paths 0)) [
    | inl x ↦ let b = old_low q k h in let c = high in omega (arith, b.0, e ∙ end_is, x)
    | inr x ↦ n (w.lists.apart k 0 q h (subst (λ z. IsIn z (paths 0)) (sym (e ∙ end_is)) x))
  ]

  head_not_end : (k : ℕ) → k < W.base / 2 → k ≢ 0 → k ≢ next_of W.places (W.base / 2)
  head_not_end k b n e = elim (last_in 0 (paths 0)) [
    | inl x ↦ n (e ∙ end_is ∙ x)
    | inr x ↦ let c = old_low (last_of 0 (paths 0)) 0 x in omega (arith, c.0, e ∙ end_is)
  ]

  same_place : (q k : ℕ) → IsIn q (paths k) → q ≢ next_of W.places (W.base / 2) → next_of ys q ≡ next_of W.places q
  same_place q k h n = let b = old_low q k h in let c = high in a.others q n (λ e. omega (arith, b.0, e)) b.1

  in_pending : (q : ℕ) → (q ≡ 0) ⊎ IsIn q (paths 0) → q ≢ last_of 0 (paths 0) → next_of ys q ≡ next_of W.places q
  in_pending q h n = elim h [
    | inl x ↦ let c = high in let d = w.low in a.others q (λ e. n (e ∙ end_is)) (λ e. omega (arith, x, e)) (omega (arith, x))
    | inr x ↦ same_place q 0 x (λ e. n (e ∙ end_is))
  ]

  watch_list : (k : ℕ) → k < W.base / 2 → IsWatchList ys k (with_two k)
  watch_list k b = elim (cases_eq k 0) [
    | inl e ↦ subst (λ j. IsWatchList ys j (with_two j)) (sym e)
        (chain_two W.places ys 0 (length W.places) (length W.places + 1) (paths 0) (w.lists.watch_list 0 high) (ap (next_of ys) (sym end_is) ∙ a.first) a.second a.third in_pending
        ((λ h. let c = old_low 0 0 h in let d = high in omega (arith, c.0)), w.lists.once 0))
    | inr n ↦ subst (IsWatchList ys k) (sym (elsewhere_same k n)) (chain_kept W.places ys k (paths k)
        (a.others k (head_not_end k b n) (λ e. omega (arith, e)) (let c = w.low in omega arith))
        (λ q i. same_place q k i (not_end q k n i)) (w.lists.watch_list k b))
  ]

  ends : (k : ℕ) → k < W.base / 2 → next_of ys (W.base / 2 + k) ≡ last_of k (with_two k)
  ends k b = elim (cases_eq k 0) [
    | inl e ↦ subst (λ j. next_of ys (W.base / 2 + j) ≡ last_of j (with_two j)) (sym e)
        (ap (next_of ys) (let z : W.base / 2 + 0 ≡ W.base / 2 = omega arith in z) ∙ a.last ∙ sym (last_push 0 (length W.places + 1) (paths 0 ++ length W.places ∷ [])))
    | inr n ↦
        a.others (W.base / 2 + k) (cell_apart W.base k (next_of W.places (W.base / 2)) b end_link) (λ e. n (omega (arith, e))) (let c = w.low in omega arith)
        ∙ w.lists.ends k b ∙ ap (last_of k) (sym (elsewhere_same k n))
  ]

  lists : AreWatchLists ys W.base with_two
  lists = record {
    watch_list = watch_list;
    ends = ends;
    once = once;
    apart = apart_chains;
    real = λ k q h. elim (was q k h) [
      | inl x ↦ let l = a.long in let c = w.low in elim x.1 [ inl e ↦ (omega (arith, e), omega (arith, e)) | inr e ↦ (omega (arith, e), omega (arith, e)) ]
      | inr y ↦ let b = old_low q k y in (b.0, omega (arith, b.1, a.long))
    ];
  }

  -- ---- owners
  owner_old : (q : ℕ) → W.base ≤ q → q < length W.places → owner more q ≡ owner W q
  owner_old q b l = let d = w.even in let e = w.paired in get_or_append_left W.clauses (at ∷ []) no_clause ((q - W.base) / 2) (omega arith)

  owner_new : (q : ℕ) → (q ≡ length W.places) ⊎ (q ≡ length W.places + 1) → owner more q ≡ at
  owner_new q h =
      let half : length W.clauses ≡ (q - W.base) / 2 = elim h [ inl e ↦ omega (arith, e) | inr e ↦ omega (arith, e) ] in
      get_or_push W.clauses at no_clause ((q - W.base) / 2) half

  -- a place is an old one, or one of the two
  which : (q : ℕ) → IsLong more q → IsLong W q ⊎ ((q ≡ length W.places) ⊎ (q ≡ length W.places + 1))
  which q h = elim (cases_lt q (length W.places)) [
    | inl l ↦ inl (h.0, l, subst (λ (o : Ref). 2 ≤ o.len) (owner_old q h.0 l) h.2)
    | inr g ↦ inr (elim (cases_eq q (length W.places)) [ inl e ↦ inl e | inr n ↦ inr (let l = a.long in let b = h.1 in omega arith) ])
  ]

  long_on : (q : ℕ) → IsLong W q → IsLong more q
  long_on q h = (h.0, omega (arith, h.1, a.long), subst (λ (o : Ref). 2 ≤ o.len) (sym (owner_old q h.0 h.1)) h.2)

  new_long : (q : ℕ) → (q ≡ length W.places) ⊎ (q ≡ length W.places + 1) → IsLong more q → 2 ≤ length C
  new_long q e h = let b : 2 ≤ at.len = subst (λ (o : Ref). 2 ≤ o.len) (owner_new q e) h.2 in omega (arith, st.1)

  even_p : length W.places % 2 ≡ 0
  even_p = w.paired

  front : (q : ℕ) (D : Clause) (d : Literal) → IsLong more q → RefersTo m (owner more q) D → literal_at ys q ≡ get_or D (q % 2) d
  front q D d h s = elim (which q h) [
    | inl o ↦ a.literals q o.1 ∙ w.front q D d o (subst (λ r. RefersTo m r D) (owner_old q o.0 o.1) s)
    | inr e ↦
        let same_D : C ≡ D = stands_once m at C D st (subst (λ r. RefersTo m r D) (owner_new q e) s) in
        let l = new_long q e h in
        let z = even_p in
        elim e [
          | inl x ↦ let side : 0 ≡ q % 2 = omega (arith, x) in ap (literal_at ys) x ∙ a.one d l ∙ ap (λ k. get_or C k d) side ∙ ap (λ E. get_or E (q % 2) d) same_D
          | inr x ↦ let side : 1 ≡ q % 2 = omega (arith, x) in ap (literal_at ys) x ∙ a.two d l ∙ ap (λ k. get_or C k d) side ∙ ap (λ E. get_or E (q % 2) d) same_D
        ]
  ]

  twin_first : twin (length W.places) ≡ length W.places + 1
  twin_first = twin_even (length W.places) even_p

  twin_second : twin (length W.places + 1) ≡ length W.places
  twin_second = let z = even_p in let o = twin_odd (length W.places + 1) (omega arith) in omega arith

  pair_apart : 2 ≤ length C → literal_at ys (length W.places) ≢ literal_at ys (length W.places + 1)
  pair_apart l e = let d = literal_at ys 0 in apart_at C 0 1 d differ (omega arith) (omega arith) (λ x. omega arith) (sym (a.one d l) ∙ e ∙ a.two d l)

  old_twin : (q : ℕ) → q < length W.places → twin q < length W.places
  old_twin q l = let s = (twins_of q).sides in let h = (twins_of q).halves in let z = even_p in omega arith

  apart : (q : ℕ) → IsLong more q → literal_at ys q ≢ literal_at ys (twin q)
  apart q h = elim (which q h) [
    | inl o ↦ λ g. w.apart q o (sym (a.literals q o.1) ∙ g ∙ a.literals (twin q) (old_twin q o.1))
    | inr e ↦
        let l = new_long q e h in
        elim e [
          | inl x ↦ λ g. pair_apart l (ap (literal_at ys) (sym x) ∙ g ∙ ap (λ k. literal_at ys (twin k)) x ∙ ap (literal_at ys) twin_first)
          | inr x ↦ λ g. pair_apart l (ap (literal_at ys) (sym twin_second) ∙ ap (λ k. literal_at ys (twin k)) (sym x) ∙ sym g ∙ ap (literal_at ys) x)
        ]
  ]

  home : (v : Literal) (q : ℕ) → IsWithin t.vars v → IsIn q (with_two (index_of v)) → (literal_at ys q ≡ v) × IsLong more q
  home v q b h = elim (was q (index_of v) h) [
    | inl x ↦ absurd (let i = index_high t.vars v b in omega (arith, x.0))
    | inr y ↦ let o = w.home v q b y in (a.literals q o.1.1 ∙ o.0, long_on q o.1)
  ]

  kept : (q : ℕ) → IsLong more q → IsPendingOrGuarded ys t.entries W.head with_two q
  kept q h = elim (which q h) [
    | inl o ↦ elim (w.kept q o) [
      | inl i ↦ inl (still q 0 i)
      | inr i ↦ inr (
        subst (λ l. IsIn q (with_two (index_of l))) (sym (a.literals q o.1)) (still q (index_of (literal_at W.places q)) i.0),
        subst (λ l. IsGuarded t.entries W.head l (literal_at ys (twin q))) (sym (a.literals q o.1)) (subst (IsGuarded t.entries W.head (literal_at W.places q)) (sym (a.literals (twin q) (old_twin q o.1))) i.1),
      )
    ]
    | inr e ↦ inl (elim e [
      | inl x ↦ in_left q (paths 0 ++ length W.places ∷ []) ((length W.places + 1) ∷ []) (in_right q (paths 0) (length W.places ∷ []) (inl x))
      | inr x ↦ in_right q (paths 0 ++ length W.places ∷ []) ((length W.places + 1) ∷ []) (inl x)
    ])
  ]

  short : (i : ℕ) → W.base + 2 * i < length ys → (get_or (W.clauses ++ at ∷ []) i no_clause).len < 2 → IsIn (W.base + 2 * i) (with_two 0) ⊎ IsRootSatisfied m t.entries (get_or (W.clauses ++ at ∷ []) i no_clause)
  short i b s = elim (cases_lt i (length W.clauses)) [
    | inl l ↦
        let e = get_or_append_left W.clauses (at ∷ []) no_clause i l in
        elim (w.short i (omega arith) (subst (λ (o : Ref). o.len < 2) e s)) [
          | inl h ↦ inl (still (W.base + 2 * i) 0 h)
          | inr h ↦ inr (subst (IsRootSatisfied m t.entries) (sym e) h)
        ]
    | inr g ↦ inl (in_left (W.base + 2 * i) (paths 0 ++ length W.places ∷ []) ((length W.places + 1) ∷ []) (in_right (W.base + 2 * i) (paths 0) (length W.places ∷ []) (inl (let l = a.long in omega arith))))
  ]

  named : AreNamed (W.clauses ++ at ∷ [])
  named = named_push W.clauses at w.named fresh

  pub attached : IsWatching more m t with_two
  attached = record {
    lists = lists;
    wide = w.wide;
    even = w.even;
    low = let l = a.long in let c = w.low in omega arith;
    paired = let l = a.long in let z = w.paired in omega arith;
    partly = let l = a.long in let n = length-append W.clauses (at ∷ []) in omega arith;
    named = named;
    here = All-push (IsLiveWithin m t.vars) W.clauses at w.here (C, st, within);
    front = front;
    apart = apart;
    home = home;
    kept = kept;
    short = short;
    handled = w.handled;
  }

  pub some_watching : AreWatching more m t
  some_watching = (with_two, attached)
