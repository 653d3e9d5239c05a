-- The runs of rising keys, and their ranks.
use Rattle.std.proofs.Common.{◌≡◌, ◌≢◌, ℕ, suc, ◌+◌, ◌-◌, ◌*◌, ◌<◌, ◌≤◌, cond, List, [], ◌∷◌, ◌++◌, length, get_or, drop, drop-cons, append_assoc, eqb, refl, sym, ap, subst, ◌∙◌, arith, inl, inr}
use Rattle.std.specs.List.{All, Contains}
use Rattle.std.specs.List.Sorted.{IsNonDecreasing}
use Rattle.std.proofs.lemmas.Bool.{cases_eq, eq-eqb, ne_eqb, cond-true, cond-false}
use Rattle.std.proofs.lemmas.List.{append-nil, drop_all}
use Rattle.std.proofs.lemmas.List.Elements.{All-nil, All-cons, All-append, All-head, All-tail, All-weaker, All-contains, Contains-append_left, Contains-append_right}
use Rattle.std.proofs.lemmas.List.Sums.{sum_by-cons}
use Rattle.dimacs.proofs.Members.{Contains-head, Contains-nil}
use Rattle.cube_split.proofs.LowestLemmas.{apart_before}
use Rattle.cube_split.specs.inner.Ranks.{AreApart, closed_run, ranks_from, rank_of, times}

-- ---- rising keys, by recursion
abbrev pub AreSorted : List ℕ → Type 0
AreSorted [] = Unit {0}
AreSorted (x ∷ xs) = All (λ y. x ≤ y) xs × AreSorted xs

pub sorted_from : (xs : List ℕ) → IsNonDecreasing xs → AreSorted xs
sorted_from [] h = tt
sorted_from (x ∷ xs) h = (
  λ k d below. let b : suc k < length (x ∷ xs) = omega arith in h 0 (suc k) d (omega arith) b,
  sorted_from xs (λ i j d le below. h (suc i) (suc j) d (omega arith) (omega arith)),
)

-- ---- how often a key stands in a run that has begun and after it
abbrev total : ℕ → ℕ → List ℕ → ℕ → ℕ
total last count keys k = times k keys + cond (eqb k last) count 0

times_cons : (k key : ℕ) (keys : List ℕ) → times k (key ∷ keys) ≡ cond (eqb key k) 1 0 + times k keys
times_cons k key keys = sum_by-cons (λ (n : ℕ). cond {A = ℕ} (eqb n k) 1 0) key keys

one_here : (k key : ℕ) → key ≡ k → cond {A = ℕ} (eqb key k) 1 0 ≡ 1
one_here k key e = cond-true (eqb key k) 1 0 (eq-eqb key k e)

none_here : (k key : ℕ) → key ≢ k → cond {A = ℕ} (eqb key k) 1 0 ≡ 0
none_here k key ne = cond-false (eqb key k) 1 0 (ne_eqb key k ne)

begun_here : (k last count : ℕ) → k ≡ last → cond {A = ℕ} (eqb k last) count 0 ≡ count
begun_here k last count e = cond-true (eqb k last) count 0 (eq-eqb k last e)

begun_other : (k last count : ℕ) → k ≢ last → cond {A = ℕ} (eqb k last) count 0 ≡ 0
begun_other k last count ne = cond-false (eqb k last) count 0 (ne_eqb k last ne)

times_above : (k : ℕ) (keys : List ℕ) → All (λ y. k < y) keys → times k keys ≡ 0
times_above k [] h = refl
times_above k (key ∷ keys) h =
    let a = All-head (λ y. k < y) key keys h in
    let b = none_here k key (λ e. omega arith) in
    let c = times_above k keys (All-tail (λ y. k < y) key keys h) in
    let d = times_cons k key keys in
    omega arith

total_same : (last count key : ℕ) (keys : List ℕ) (k : ℕ) → key ≡ last → total last (count + 1) keys k ≡ total last count (key ∷ keys) k
total_same last count key keys k e = elim (cases_eq k last) [
  | inl here ↦
      let a = begun_here k last (count + 1) here in
      let b = begun_here k last count here in
      let c = times_cons k key keys in
      let d = one_here k key (e ∙ sym here) in
      omega arith
  | inr ne ↦
      let a = begun_other k last (count + 1) ne in
      let b = begun_other k last count ne in
      let c = times_cons k key keys in
      let d = none_here k key (λ f. ne (sym f ∙ e)) in
      omega arith
]

total_next : (last count key : ℕ) (keys : List ℕ) (k : ℕ) → k ≢ last → total key 1 keys k ≡ total last count (key ∷ keys) k
total_next last count key keys k ne = elim (cases_eq k key) [
  | inl here ↦
      let a = begun_here k key 1 here in
      let b = begun_other k last count ne in
      let c = times_cons k key keys in
      let d = one_here k key (sym here) in
      omega arith
  | inr other ↦
      let a = begun_other k key 1 other in
      let b = begun_other k last count ne in
      let c = times_cons k key keys in
      let d = none_here k key (λ f. other (sym f)) in
      omega arith
]

total_last : (last count : ℕ) (keys : List ℕ) → All (λ y. last < y) keys → total last count keys last ≡ count
total_last last count keys h = let a = times_above last keys h in let b = begun_here last last count refl in omega arith

total_first : (keys : List ℕ) (k : ℕ) → total 0 0 keys k ≡ times k keys
total_first keys k = elim (cases_eq k 0) [
  | inl e ↦ let a = begun_here k 0 0 e in omega arith
  | inr ne ↦ let a = begun_other k 0 0 ne in omega arith
]

-- ---- the run that has begun
closed_all : (P : ℕ → Type 0) (key count : ℕ) → (0 < count → P (rank_of count key)) → All P (closed_run key count)
closed_all P key count h = elim (cases_eq count 0) [
  | inl e ↦ subst (All P) (sym (cond-true (eqb count 0) [] (rank_of count key ∷ []) (eq-eqb count 0 e))) (All-nil P)
  | inr ne ↦ subst (All P) (sym (cond-false (eqb count 0) [] (rank_of count key ∷ []) (ne_eqb count 0 ne))) (All-cons P (rank_of count key) [] (h (omega arith)) (All-nil P))
]

closed_there : (key count : ℕ) → 0 < count → Contains (closed_run key count) (rank_of count key)
closed_there key count h =
    subst (λ (xs : List ℕ). Contains xs (rank_of count key)) (sym (cond-false (eqb count 0) [] (rank_of count key ∷ []) (ne_eqb count 0 (λ e. omega arith)))) (Contains-head (rank_of count key) [])

closed_none : (key count : ℕ) (r : ℕ) → Contains (closed_run key count) r → 0 < count
closed_none key count r h = All-contains (λ x. 0 < count) (closed_run key count) r (closed_all (λ x. 0 < count) key count (λ some. some)) h

closed_apart : (key count : ℕ) (more : List ℕ) → ¬ (Contains more (rank_of count key)) → AreApart more → AreApart (closed_run key count ++ more)
closed_apart key count more new h = elim (cases_eq count 0) [
  | inl e ↦ subst (λ (xs : List ℕ). AreApart (xs ++ more)) (sym (cond-true (eqb count 0) [] (rank_of count key ∷ []) (eq-eqb count 0 e))) h
  | inr ne ↦ subst (λ (xs : List ℕ). AreApart (xs ++ more)) (sym (cond-false (eqb count 0) [] (rank_of count key ∷ []) (ne_eqb count 0 ne))) (new, h)
]

-- ---- the ranks of the runs
record IsRunOf (last count : ℕ) (keys : List ℕ) (r : ℕ) : Type 0 where
  key : ℕ
  low : last ≤ key
  small : key < 72057594037927936
  some : 0 < total last count keys key
  is : r ≡ rank_of (total last count keys key) key

at_key : (last count key : ℕ) (keys : List ℕ) → key ≡ last → ranks_from last count (key ∷ keys) ≡ ranks_from last (count + 1) keys
at_key last count key keys e = cond-true (eqb key last) (ranks_from last (count + 1) keys) (closed_run last count ++ ranks_from key 1 keys) (eq-eqb key last e)

past_key : (last count key : ℕ) (keys : List ℕ) → key ≢ last → ranks_from last count (key ∷ keys) ≡ closed_run last count ++ ranks_from key 1 keys
past_key last count key keys ne = cond-false (eqb key last) (ranks_from last (count + 1) keys) (closed_run last count ++ ranks_from key 1 keys) (ne_eqb key last ne)

above : (last key : ℕ) (keys : List ℕ) → last ≤ key → key ≢ last → All (λ y. key ≤ y) keys → All (λ y. last < y) (key ∷ keys)
above last key keys low ne h = All-cons (λ y. last < y) key keys (omega arith) (All-weaker (λ y. key ≤ y) (λ y. last < y) (λ y le. omega arith) keys h)

abbrev Small : ℕ → Type 0
Small k = k < 72057594037927936

made : (last count : ℕ) (keys : List ℕ) → Small last → All (λ y. last ≤ y) keys → AreSorted keys → All Small keys → All (IsRunOf last count keys) (ranks_from last count keys)
made last count [] small low up few = closed_all (IsRunOf last count []) last count (λ some.
    let e = total_last last count [] (All-nil (λ y. last < y)) in
    record { key = last; low = omega arith; small = small; some = omega arith; is = ap (λ (n : ℕ). rank_of n last) (sym e) })
made last count (key ∷ keys) small low up few = elim (cases_eq key last) [
  | inl e ↦ subst (All (IsRunOf last count (key ∷ keys))) (sym (at_key last count key keys e))
      (All-weaker (IsRunOf last (count + 1) keys) (IsRunOf last count (key ∷ keys)) (λ r h.
      let t = total_same last count key keys h.key e in
      let s = h.some in
      record { key = h.key; low = h.low; small = h.small; some = omega arith; is = h.is ∙ ap (λ (n : ℕ). rank_of n h.key) t }) (ranks_from last (count + 1) keys)
      (made last (count + 1) keys small (All-tail (λ y. last ≤ y) key keys low) up.1 (All-tail Small key keys few)))
  | inr ne ↦
      let here : last ≤ key = All-head (λ y. last ≤ y) key keys low in
      subst (All (IsRunOf last count (key ∷ keys))) (sym (past_key last count key keys ne))
      (All-append (IsRunOf last count (key ∷ keys)) (closed_run last count) (ranks_from key 1 keys)
      (closed_all (IsRunOf last count (key ∷ keys)) last count (λ some.
      let e = total_last last count (key ∷ keys) (above last key keys here ne up.0) in
      record { key = last; low = omega arith; small = small; some = omega arith; is = ap (λ (n : ℕ). rank_of n last) (sym e) }))
      (All-weaker (IsRunOf key 1 keys) (IsRunOf last count (key ∷ keys)) (λ r h.
      let l = h.low in
      let t = total_next last count key keys h.key (λ e. omega arith) in
      let s = h.some in
      record { key = h.key; low = omega arith; small = h.small; some = omega arith; is = h.is ∙ ap (λ (n : ℕ). rank_of n h.key) t }) (ranks_from key 1 keys)
      (made key 1 keys (All-head Small key keys few) up.0 up.1 (All-tail Small key keys few))))
]

there : (last count : ℕ) (keys : List ℕ) → All (λ y. last ≤ y) keys → AreSorted keys → (k : ℕ) → 0 < total last count keys k → Contains (ranks_from last count keys) (rank_of (total last count keys k) k)
there last count [] low up k some = elim (cases_eq k last) [
  | inl e ↦
      let t = total_last last count [] (All-nil (λ y. last < y)) in
      let u : total last count [] k ≡ count = ap (total last count []) e ∙ t in
      subst (λ (n : ℕ). Contains (closed_run last count) (rank_of (total last count [] k) n)) (sym e)
      (subst (λ (n : ℕ). Contains (closed_run last count) (rank_of n last)) (sym u) (closed_there last count (omega arith)))
  | inr ne ↦ absurd (nothing last count k ne some)
]
  where
    nothing : (last count k : ℕ) → k ≢ last → 0 < total last count [] k → ⊥
    nothing last count k ne some = let b = begun_other k last count ne in let c : times k [] ≡ 0 = refl in omega arith
there last count (key ∷ keys) low up k some = elim (cases_eq key last) [
  | inl e ↦
      let t = total_same last count key keys k e in
      subst (λ (rs : List ℕ). Contains rs (rank_of (total last count (key ∷ keys) k) k)) (sym (at_key last count key keys e))
      (subst (λ (n : ℕ). Contains (ranks_from last (count + 1) keys) (rank_of n k)) t
      (there last (count + 1) keys (All-tail (λ y. last ≤ y) key keys low) up.1 k (omega arith)))
  | inr ne ↦
      let here : last ≤ key = All-head (λ y. last ≤ y) key keys low in
      subst (λ (rs : List ℕ). Contains rs (rank_of (total last count (key ∷ keys) k) k)) (sym (past_key last count key keys ne))
      (elim (cases_eq k last) [
        | inl e ↦
            let t = total_last last count (key ∷ keys) (above last key keys here ne up.0) in
            let u : total last count (key ∷ keys) k ≡ count = ap (total last count (key ∷ keys)) e ∙ t in
            Contains-append_left (closed_run last count) (ranks_from key 1 keys) (rank_of (total last count (key ∷ keys) k) k)
            (subst (λ (n : ℕ). Contains (closed_run last count) (rank_of (total last count (key ∷ keys) k) n)) (sym e)
            (subst (λ (n : ℕ). Contains (closed_run last count) (rank_of n last)) (sym u) (closed_there last count (omega arith))))
        | inr other ↦
            let t = total_next last count key keys k other in
            Contains-append_right (closed_run last count) (ranks_from key 1 keys) (rank_of (total last count (key ∷ keys) k) k)
            (subst (λ (n : ℕ). Contains (ranks_from key 1 keys) (rank_of n k)) t (there key 1 keys up.0 up.1 k (omega arith)))
      ])
]

-- ranks of different keys differ
pub rank_apart : (a b k l : ℕ) → k < 72057594037927936 → l < 72057594037927936 → rank_of a k ≡ rank_of b l → k ≡ l
rank_apart a b k l s t e = parts (134217727 - a) (134217727 - b) k l s t e
  where
    parts : (x y k l : ℕ) → k < 72057594037927936 → l < 72057594037927936 → x * 72057594037927936 + k ≡ y * 72057594037927936 + l → k ≡ l
    parts x y k l s t e = omega arith

apart : (last count : ℕ) (keys : List ℕ) → Small last → All (λ y. last ≤ y) keys → AreSorted keys → All Small keys → AreApart (ranks_from last count keys)
apart last count [] small low up few = subst AreApart (append-nil (closed_run last count)) (closed_apart last count [] (λ h. Contains-nil (rank_of count last) h) tt)
apart last count (key ∷ keys) small low up few = elim (cases_eq key last) [
  | inl e ↦ subst AreApart (sym (at_key last count key keys e)) (apart last (count + 1) keys small (All-tail (λ y. last ≤ y) key keys low) up.1 (All-tail Small key keys few))
  | inr ne ↦
      let here : last ≤ key = All-head (λ y. last ≤ y) key keys low in
      subst AreApart (sym (past_key last count key keys ne))
      (closed_apart last count (ranks_from key 1 keys)
      (λ h.
      let run : IsRunOf key 1 keys (rank_of count last) = All-contains (IsRunOf key 1 keys) (ranks_from key 1 keys) (rank_of count last) (made key 1 keys (All-head Small key keys few) up.0 up.1 (All-tail Small key keys few)) h in
      let l = run.low in
      let same_one : last ≡ run.key = rank_apart count (total key 1 keys run.key) last run.key small run.small run.is in
      omega arith)
      (apart key 1 keys (All-head Small key keys few) up.0 up.1 (All-tail Small key keys few)))
]

-- ---- all of it, from no run on
all_low : (keys : List ℕ) → All (λ y. 0 ≤ y) keys
all_low [] = All-nil (λ y. 0 ≤ y)
all_low (key ∷ keys) = All-cons (λ y. 0 ≤ y) key keys (omega arith) (all_low keys)

pub ranks_apart : (keys : List ℕ) → AreSorted keys → All Small keys → AreApart (ranks_from 0 0 keys)
ranks_apart keys up few = apart 0 0 keys (omega arith) (all_low keys) up few

pub ranks_there : (keys : List ℕ) → AreSorted keys → (k : ℕ) → 0 < times k keys → Contains (ranks_from 0 0 keys) (rank_of (times k keys) k)
ranks_there keys up k some =
    let t = total_first keys k in
    subst (λ (n : ℕ). Contains (ranks_from 0 0 keys) (rank_of n k)) t (there 0 0 keys (all_low keys) up k (omega arith))

pub ranks_made : (keys : List ℕ) → AreSorted keys → All Small keys → All (λ r. (k : ℕ) × (0 < times k keys) × (r ≡ rank_of (times k keys) k)) (ranks_from 0 0 keys)
ranks_made keys up few =
    All-weaker (IsRunOf 0 0 keys) (λ r. (k : ℕ) × (0 < times k keys) × (r ≡ rank_of (times k keys) k))
    (λ r h. let t = total_first keys h.key in let s = h.some in (h.key, omega arith, h.is ∙ ap (λ (n : ℕ). rank_of n h.key) t))
    (ranks_from 0 0 keys) (made 0 0 keys (omega arith) (all_low keys) up few)

-- ---- the walk along the keys
pub closed_is : (key count : ℕ) → 0 < count → closed_run key count ≡ rank_of count key ∷ []
closed_is key count some = cond-false (eqb count 0) [] (rank_of count key ∷ []) (ne_eqb count 0 (λ e. omega arith))

pub fresh_run : (seen : List ℕ) (key count : ℕ) (more : List ℕ) → AreApart (seen ++ (closed_run key count ++ more)) → All (λ r. ¬ (Contains seen r)) (closed_run key count)
fresh_run seen key count more h = closed_all (λ r. ¬ (Contains seen r)) key count (λ some.
    apart_before seen (rank_of count key) more (subst (λ (xs : List ℕ). AreApart (seen ++ (xs ++ more))) (closed_is key count some) h))

next_key : (keys : List ℕ) (i key : ℕ) → i < length keys → key ≡ get_or keys i 0 → drop i keys ≡ key ∷ drop (i + 1) keys
next_key keys i key below is =
    drop-cons keys i 0 below ∙ ap (λ (k : ℕ). k ∷ drop (suc i) keys) (sym is) ∙ ap (λ (j : ℕ). key ∷ drop j keys) (let e : suc i ≡ i + 1 = omega arith in e)

pub run_goes_on : (seen : List ℕ) (last count : ℕ) (keys : List ℕ) (i key : ℕ) (whole : List ℕ) → i < length keys → key ≡ get_or keys i 0 → key ≡ last
    → seen ++ ranks_from last count (drop i keys) ≡ whole → seen ++ ranks_from last (count + 1) (drop (i + 1) keys) ≡ whole
run_goes_on seen last count keys i key whole below is e h =
    ap (λ (rs : List ℕ). seen ++ rs) (sym (ap (ranks_from last count) (next_key keys i key below is) ∙ at_key last count key (drop (i + 1) keys) e)) ∙ h

run_split : (seen : List ℕ) (last count : ℕ) (keys : List ℕ) (i key : ℕ) (whole : List ℕ) → i < length keys → key ≡ get_or keys i 0 → key ≢ last
    → seen ++ ranks_from last count (drop i keys) ≡ whole → seen ++ (closed_run last count ++ ranks_from key 1 (drop (i + 1) keys)) ≡ whole
run_split seen last count keys i key whole below is ne h =
    ap (λ (rs : List ℕ). seen ++ rs) (sym (ap (ranks_from last count) (next_key keys i key below is) ∙ past_key last count key (drop (i + 1) keys) ne)) ∙ h

pub run_ends : (seen : List ℕ) (last count : ℕ) (keys : List ℕ) (i key : ℕ) (whole : List ℕ) → i < length keys → key ≡ get_or keys i 0 → key ≢ last
    → seen ++ ranks_from last count (drop i keys) ≡ whole → (seen ++ closed_run last count) ++ ranks_from key 1 (drop (i + 1) keys) ≡ whole
run_ends seen last count keys i key whole below is ne h =
    append_assoc seen (closed_run last count) (ranks_from key 1 (drop (i + 1) keys)) ∙ run_split seen last count keys i key whole below is ne h

pub fresh_here : (seen : List ℕ) (last count : ℕ) (keys : List ℕ) (i key : ℕ) (whole : List ℕ) → i < length keys → key ≡ get_or keys i 0 → key ≢ last
    → seen ++ ranks_from last count (drop i keys) ≡ whole → AreApart whole → All (λ r. ¬ (Contains seen r)) (closed_run last count)
fresh_here seen last count keys i key whole below is ne h once =
    fresh_run seen last count (ranks_from key 1 (drop (i + 1) keys)) (subst AreApart (sym (run_split seen last count keys i key whole below is ne h)) once)

pub run_last : (seen : List ℕ) (last count : ℕ) (keys : List ℕ) (i : ℕ) (whole : List ℕ) → length keys ≤ i → seen ++ ranks_from last count (drop i keys) ≡ whole → seen ++ closed_run last count ≡ whole
run_last seen last count keys i whole over h = ap (λ (ks : List ℕ). seen ++ ranks_from last count ks) (sym (drop_all i keys over)) ∙ h

pub fresh_last : (seen : List ℕ) (last count : ℕ) (whole : List ℕ) → seen ++ closed_run last count ≡ whole → AreApart whole → All (λ r. ¬ (Contains seen r)) (closed_run last count)
fresh_last seen last count whole h once =
    fresh_run seen last count [] (subst AreApart (sym (ap (λ (rs : List ℕ). seen ++ rs) (append-nil (closed_run last count)) ∙ h)) once)
