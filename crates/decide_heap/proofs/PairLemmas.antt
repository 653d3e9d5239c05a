-- `heap` and `places` stay inverse to each other.
use Rattle.std.proofs.Common.{◌≡◌, ◌≢◌, ℕ, ◌<◌, List, length, get_or, set, sym, ap, ◌∙◌, arith, ⊎_elim}
use Rattle.std.proofs.lemmas.Bool.{cases_eq}
use Rattle.std.proofs.lemmas.List.{get_or-set_same, get_or-set_other, length-set}
use Rattle.decide_heap.specs.inner.Heap.{ArePaired, AreSwapped}

-- two writes that exchange
pub swapped_writes : (xs : List ℕ) (i j a b : ℕ) → i < length xs → j < length xs → a ≡ get_or xs i 0 → b ≡ get_or xs j 0
    → AreSwapped xs (set (set xs i b) j a) i j
swapped_writes xs i j a b li lj ea eb =
    let lj' : j < length (set xs i b) = omega (arith, length-set xs i b) in
    record {
      first = ⊎_elim
          (λ (e : i ≡ j). ap (λ k. get_or (set (set xs i b) j a) k 0) e ∙ get_or-set_same (set xs i b) j a 0 lj' ∙ ea ∙ ap (λ k. get_or xs k 0) e)
          (λ (n : i ≢ j). get_or-set_other (set xs i b) j i a 0 n ∙ get_or-set_same xs i b 0 li ∙ eb)
          (cases_eq i j);
      second = get_or-set_same (set xs i b) j a 0 lj' ∙ ea;
      others = λ k ni nj. get_or-set_other (set xs i b) j k a 0 nj ∙ get_or-set_other xs i k b 0 ni;
    }

-- a hole at i with a in it moves to j, whose entry b goes to i
pub swapped_hole : (xs : List ℕ) (i j a b : ℕ) → i < length xs → j < length xs → i ≢ j → b ≡ get_or xs j 0
    → AreSwapped (set xs i a) (set (set xs i b) j a) i j
swapped_hole xs i j a b li lj n eb =
    let lj' : j < length (set xs i b) = omega (arith, length-set xs i b) in
    let n' : j ≢ i = λ e. n (sym e) in
    record {
      first = get_or-set_other (set xs i b) j i a 0 n ∙ get_or-set_same xs i b 0 li ∙ eb ∙ sym (get_or-set_other xs i j a 0 n');
      second = get_or-set_same (set xs i b) j a 0 lj' ∙ sym (get_or-set_same xs i a 0 li);
      others = λ k ni nj. get_or-set_other (set xs i b) j k a 0 nj ∙ get_or-set_other xs i k b 0 ni ∙ sym (get_or-set_other xs i k a 0 ni);
    }

-- the places of v and w, where i was written for v, and j is the place of w
pub swapped_places : (xs : List ℕ) (v w i j : ℕ) → v < length xs → w < length xs → v ≢ w → get_or xs w 0 ≡ j
    → AreSwapped (set xs v i) (set (set xs w i) v j) v w
swapped_places xs v w i j lv lw n ej =
    let lv' : v < length (set xs w i) = omega (arith, length-set xs w i) in
    let n' : w ≢ v = λ e. n (sym e) in
    record {
      first = get_or-set_same (set xs w i) v j 0 lv' ∙ sym ej ∙ sym (get_or-set_other xs v w i 0 n');
      second = get_or-set_other (set xs w i) v w j 0 n' ∙ get_or-set_same xs w i 0 lw ∙ sym (get_or-set_same xs v i 0 lv);
      others = λ k nv nw. get_or-set_other (set xs w i) v k j 0 nv ∙ get_or-set_other xs w k i 0 nw ∙ sym (get_or-set_other xs v k i 0 nv);
    }

-- an exchange keeps the two lists inverse to each other
pub paired_swap : (heap places new_heap new_places : List ℕ) (i j : ℕ) → ArePaired heap places → i < length heap → j < length heap
    → length new_heap ≡ length heap → length new_places ≡ length places
    → AreSwapped heap new_heap i j → AreSwapped places new_places (get_or heap i 0) (get_or heap j 0) → ArePaired new_heap new_places
paired_swap heap places new_heap new_places i j p li lj long_heap long_places h q =
    record {
      long = long_places ∙ p.long ∙ sym long_heap;
      variable = λ k lk. rw long_heap (variable k (rw (← long_heap) lk));
      place = λ k lk. place k (rw (← long_heap) lk);
      within = λ v lv. rw long_heap (within v (rw (← long_heap) lv));
      there = λ v lv. there v (rw (← long_heap) lv);
    } where
      variable : (k : ℕ) → k < length heap → get_or new_heap k 0 < length heap
      variable k lk = ⊎_elim
          (λ (e : k ≡ i). rw (e, h.first) (p.variable j lj))
          (λ (ni : k ≢ i). ⊎_elim
          (λ (e : k ≡ j). rw (e, h.second) (p.variable i li))
          (λ (nj : k ≢ j). rw (h.others k ni nj) (p.variable k lk))
          (cases_eq k j))
          (cases_eq k i)

      place : (k : ℕ) → k < length heap → get_or new_places (get_or new_heap k 0) 0 ≡ k
      place k lk = ⊎_elim
          (λ (e : k ≡ i). rw (e, h.first, q.second) (p.place i li))
          (λ (ni : k ≢ i). ⊎_elim
          (λ (e : k ≡ j). rw (e, h.second, q.first) (p.place j lj))
          (λ (nj : k ≢ j).
          let vi : get_or heap k 0 ≢ get_or heap i 0 = λ e. ni (sym (p.place k lk) ∙ ap (λ v. get_or places v 0) e ∙ p.place i li) in
          let vj : get_or heap k 0 ≢ get_or heap j 0 = λ e. nj (sym (p.place k lk) ∙ ap (λ v. get_or places v 0) e ∙ p.place j lj) in
          rw (h.others k ni nj, q.others (get_or heap k 0) vi vj) (p.place k lk))
          (cases_eq k j))
          (cases_eq k i)

      within : (v : ℕ) → v < length heap → get_or new_places v 0 < length heap
      within v lv = ⊎_elim
          (λ (e : v ≡ get_or heap i 0). rw (e, q.first) (p.within (get_or heap j 0) (p.variable j lj)))
          (λ (ni : v ≢ get_or heap i 0). ⊎_elim
          (λ (e : v ≡ get_or heap j 0). rw (e, q.second) (p.within (get_or heap i 0) (p.variable i li)))
          (λ (nj : v ≢ get_or heap j 0). rw (q.others v ni nj) (p.within v lv))
          (cases_eq v (get_or heap j 0)))
          (cases_eq v (get_or heap i 0))

      there : (v : ℕ) → v < length heap → get_or new_heap (get_or new_places v 0) 0 ≡ v
      there v lv = ⊎_elim
          (λ (e : v ≡ get_or heap i 0). ap (λ w. get_or new_heap (get_or new_places w 0) 0) e ∙ ap (λ k. get_or new_heap k 0) (q.first ∙ p.place j lj) ∙ h.second ∙ sym e)
          (λ (ni : v ≢ get_or heap i 0). ⊎_elim
          (λ (e : v ≡ get_or heap j 0). ap (λ w. get_or new_heap (get_or new_places w 0) 0) e ∙ ap (λ k. get_or new_heap k 0) (q.second ∙ p.place i li) ∙ h.first ∙ sym e)
          (λ (nj : v ≢ get_or heap j 0).
          let pi : get_or places v 0 ≢ i = λ e. ni (sym (p.there v lv) ∙ ap (λ k. get_or heap k 0) e) in
          let pj : get_or places v 0 ≢ j = λ e. nj (sym (p.there v lv) ∙ ap (λ k. get_or heap k 0) e) in
          ap (λ k. get_or new_heap k 0) (q.others v ni nj) ∙ h.others (get_or places v 0) pi pj ∙ p.there v lv)
          (cases_eq v (get_or heap j 0)))
          (cases_eq v (get_or heap i 0))

-- two exchanges, written one entry at a time
pub paired_writes : (heap places : List ℕ) (i j a b : ℕ) → ArePaired heap places → i < length heap → j < length heap → a ≡ get_or heap i 0 → b ≡ get_or heap j 0
    → ArePaired (set (set heap i b) j a) (set (set places b i) a j)
paired_writes heap places i j a b p li lj ea eb =
    let la : a < length places = rw (ea, p.long) (p.variable i li) in
    let lb : b < length places = rw (eb, p.long) (p.variable j lj) in
    let pi : i ≡ get_or places a 0 = rw ea (sym (p.place i li)) in
    let pj : j ≡ get_or places b 0 = rw eb (sym (p.place j lj)) in
    let q : AreSwapped places (set (set places b i) a j) b a = swapped_writes places b a j i lb la pj pi in
    let q' : AreSwapped places (set (set places b i) a j) a b = record { first = q.second; second = q.first; others = λ k na nb. q.others k nb na } in
    paired_swap heap places (set (set heap i b) j a) (set (set places b i) a j) i j p li lj
    (length-set (set heap i b) j a ∙ length-set heap i b)
    (length-set (set places b i) a j ∙ length-set places b i)
    (swapped_writes heap i j a b li lj ea eb)
    (rw (← ea, ← eb) q')

-- the hole moves from i to j, with a in it before and after
pub hole_moves : (heap places : List ℕ) (i j a b : ℕ) → ArePaired (set heap i a) (set places a i) → i < length heap → j < length heap → i ≢ j → b ≡ get_or heap j 0
    → ArePaired (set (set heap i b) j a) (set (set places b i) a j) × AreSwapped (set heap i a) (set (set heap i b) j a) i j
hole_moves heap places i j a b p li lj n eb =
    let n' : j ≢ i = λ e. n (sym e) in
    let size = length-set heap i a in
    let rows = length-set places a i in
    let li' : i < length (set heap i a) = omega (arith, size) in
    let lj' : j < length (set heap i a) = omega (arith, size) in
    let ha : get_or (set heap i a) i 0 ≡ a = get_or-set_same heap i a 0 li in
    let hb : get_or (set heap i a) j 0 ≡ b = get_or-set_other heap i j a 0 n' ∙ sym eb in
    let pa : get_or (set places a i) a 0 ≡ i = rw ha at (p.place i li') in
    let pb : get_or (set places a i) b 0 ≡ j = rw hb at (p.place j lj') in
    let va = p.variable i li' in
    let vb = p.variable j lj' in
    let la : a < length places = omega (arith, p.long, size, rows, ha, va) in
    let lb : b < length places = omega (arith, p.long, size, rows, hb, vb) in
    let nab : a ≢ b = λ e. n (sym pa ∙ ap (λ v. get_or (set places a i) v 0) e ∙ pb) in
    let nba : b ≢ a = λ e. nab (sym e) in
    let qb : get_or places b 0 ≡ j = sym (get_or-set_other places a b i 0 nba) ∙ pb in
    let h = swapped_hole heap i j a b li lj n eb in
    let q = swapped_places places a b i j la lb nab qb in (
      paired_swap (set heap i a) (set places a i) (set (set heap i b) j a) (set (set places b i) a j) i j p li' lj'
          (length-set (set heap i b) j a ∙ length-set heap i b ∙ sym size)
          (length-set (set places b i) a j ∙ length-set places b i ∙ sym rows)
          h
          (rw (ha, hb) q),
      h,
    )
