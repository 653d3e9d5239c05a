-- Which variables are in the heap, after an exchange and after moves among its first places.
use Rattle.std.proofs.Common.{◌≡◌, ◌≢◌, ◌⊎◌, inl, inr, ℕ, ◌+◌, ◌<◌, ◌≤◌, Bool, true, false, List, length, get_or, set, sym, ap, ◌∙◌, arith, ⊎_elim, nat_lt}
use Rattle.std.proofs.lemmas.Bool.{cases_eq, cases_lt, lt-ltb, le-ltb}
use Rattle.std.proofs.lemmas.List.{get_or-set_same, get_or-set_other, get_or-map, length-set, length-map, ext_get_or}
use Rattle.decide_heap.specs.Heap.{members_of}
use Rattle.decide_heap.specs.inner.Heap.{ArePaired, AreSwapped}

pub length_members : (places : List ℕ) (len : ℕ) → length (members_of places len) ≡ length places
length_members places len = length-map places (λ p. nat_lt p len)

pub member_at : (places : List ℕ) (len v : ℕ) → v < length places → get_or (members_of places len) v false ≡ nat_lt (get_or places v 0) len
member_at places len v lt = get_or-map (λ p. nat_lt p len) places v 0 false lt

-- the same tests give the same list
pub members_by : (places new : List ℕ) (len : ℕ) → length new ≡ length places → ((v : ℕ) → v < length places → nat_lt (get_or new v 0) len ≡ nat_lt (get_or places v 0) len)
    → members_of new len ≡ members_of places len
members_by places new len long same =
    ext_get_or false (members_of new len) (members_of places len) (length_members new len ∙ long ∙ sym (length_members places len)) (λ v lt. at v (omega (arith, length_members new len))) where
      at : (v : ℕ) → v < length places → get_or (members_of new len) v false ≡ get_or (members_of places len) v false
      at v lt =
          let lt' : v < length new = omega arith in
          member_at new len v lt' ∙ same v lt ∙ sym (member_at places len v lt)

-- the same tests except one variable
pub members_set : (places new : List ℕ) (len more var : ℕ) (b : Bool) → length new ≡ length places → var < length places → nat_lt (get_or new var 0) more ≡ b
    → ((v : ℕ) → v < length places → v ≢ var → nat_lt (get_or new v 0) more ≡ nat_lt (get_or places v 0) len) → members_of new more ≡ set (members_of places len) var b
members_set places new len more var b long lt one same =
    ext_get_or false (members_of new more) (set (members_of places len) var b) (length_members new more ∙ long ∙ sym (length_members places len) ∙ sym (length-set (members_of places len) var b))
    (λ v lv. at v (omega (arith, length_members new more))) where
      at : (v : ℕ) → v < length places → get_or (members_of new more) v false ≡ get_or (set (members_of places len) var b) v false
      at v lv =
          let lv' : v < length new = omega arith in
          let room : var < length (members_of places len) = omega (arith, length_members places len) in
          ⊎_elim
          (λ (e : v ≡ var). member_at new more v lv' ∙ ap (λ k. nat_lt (get_or new k 0) more) e ∙ one ∙ sym (get_or-set_same (members_of places len) var b false room) ∙ ap (λ k. get_or (set (members_of places len) var b) k false) (sym e))
          (λ (n : v ≢ var). member_at new more v lv' ∙ same v lv n ∙ sym (member_at places len v lv) ∙ sym (get_or-set_other (members_of places len) var v b false n))
          (cases_eq v var)

-- moves among the first len places change no member
pub members_same : (heap places new_heap new_places : List ℕ) (len : ℕ) → ArePaired heap places → ArePaired new_heap new_places → length new_heap ≡ length heap
    → ((k : ℕ) → len ≤ k → get_or new_heap k 0 ≡ get_or heap k 0) → members_of new_places len ≡ members_of places len
members_same heap places new_heap new_places len p q long beyond = members_by places new_places len (q.long ∙ long ∙ sym p.long) same where
  same : (v : ℕ) → v < length places → nat_lt (get_or new_places v 0) len ≡ nat_lt (get_or places v 0) len
  same v lt =
      let lv : v < length heap = omega (arith, p.long) in
      let lv' : v < length new_heap = omega (arith, p.long) in
      let r = get_or new_places v 0 in
      let s = get_or places v 0 in
      ⊎_elim
      (λ (out : len ≤ r).
      let is : s ≡ r = ap (λ w. get_or places w 0) (sym (q.there v lv') ∙ beyond r out) ∙ p.place r (omega (arith, q.within v lv')) in
      le-ltb r len out ∙ sym (le-ltb s len (omega arith)))
      (λ (inside : r < len). ⊎_elim
      (λ (out : len ≤ s).
      let is : r ≡ s = ap (λ w. get_or new_places w 0) (sym (p.there v lv) ∙ sym (beyond s out)) ∙ q.place s (omega (arith, p.within v lv)) in
      absurd (omega arith))
      (λ (also : s < len). lt-ltb r len inside ∙ sym (lt-ltb s len also))
      (flip len s))
      (flip len r) where
        flip : (m n : ℕ) → (m ≤ n) ⊎ (n < m)
        flip m n = ⊎_elim (λ (h : n < m). inr h) (λ (h : m ≤ n). inl h) (cases_lt n m)

-- where a variable stands after an exchange: at a place of the two, or where it stood
place_after : (heap places new_heap new_places : List ℕ) (i j v : ℕ) → ArePaired heap places → ArePaired new_heap new_places → length new_heap ≡ length heap → AreSwapped heap new_heap i j
    → v < length heap → get_or new_places v 0 ≢ i → get_or new_places v 0 ≢ j → get_or places v 0 ≡ get_or new_places v 0
place_after heap places new_heap new_places i j v p q long s lt ni nj =
    let lt' : v < length new_heap = omega arith in
    let r = get_or new_places v 0 in
    let is : v ≡ get_or heap r 0 = sym (q.there v lt') ∙ s.others r ni nj in
    ap (λ w. get_or places w 0) is ∙ p.place r (omega (arith, q.within v lt'))

-- a variable from after the first len places comes to the first place after them
pub members_in : (heap places new_heap new_places : List ℕ) (len at : ℕ) → ArePaired heap places → ArePaired new_heap new_places → length new_heap ≡ length heap → AreSwapped heap new_heap at len
    → len ≤ at → at < length heap → members_of new_places (len + 1) ≡ set (members_of places len) (get_or heap at 0) true
members_in heap places new_heap new_places len at p q long s out lt =
    members_set places new_places len (len + 1) (get_or heap at 0) true (q.long ∙ long ∙ sym p.long) (omega (arith, p.long, p.variable at lt)) here other where
      here : nat_lt (get_or new_places (get_or heap at 0) 0) (len + 1) ≡ true
      here =
          let is : get_or new_places (get_or heap at 0) 0 ≡ len = ap (λ w. get_or new_places w 0) (sym s.second) ∙ q.place len (omega arith) in
          lt-ltb (get_or new_places (get_or heap at 0) 0) (len + 1) (omega arith)

      other : (v : ℕ) → v < length places → v ≢ get_or heap at 0 → nat_lt (get_or new_places v 0) (len + 1) ≡ nat_lt (get_or places v 0) len
      other v lp n =
          let lv : v < length heap = omega (arith, p.long) in
          let lv' : v < length new_heap = omega arith in
          let r = get_or new_places v 0 in
          let nl : r ≢ len = λ e. n (sym (q.there v lv') ∙ ap (λ k. get_or new_heap k 0) e ∙ s.second) in
          ⊎_elim
          (λ (e : r ≡ at).
          let was : get_or places v 0 ≡ len = ap (λ w. get_or places w 0) (sym (q.there v lv') ∙ ap (λ k. get_or new_heap k 0) e ∙ s.first) ∙ p.place len (omega arith) in
          le-ltb r (len + 1) (omega arith) ∙ sym (le-ltb (get_or places v 0) len (omega arith)))
          (λ (na : r ≢ at).
          let was = place_after heap places new_heap new_places at len v p q long s lv na nl in
          ⊎_elim
          (λ (inside : r < len). lt-ltb r (len + 1) (omega arith) ∙ sym (lt-ltb (get_or places v 0) len (omega arith)))
          (λ (o : len ≤ r). le-ltb r (len + 1) (omega arith) ∙ sym (le-ltb (get_or places v 0) len (omega arith)))
          (cases_lt r len))
          (cases_eq r at)

-- the first variable goes to the last of the first len places
pub members_out : (heap places new_heap new_places : List ℕ) (len last : ℕ) → ArePaired heap places → ArePaired new_heap new_places → length new_heap ≡ length heap → AreSwapped heap new_heap 0 last
    → len ≡ last + 1 → len ≤ length heap → members_of new_places last ≡ set (members_of places len) (get_or heap 0 0) false
members_out heap places new_heap new_places len last p q long s is_last within =
    members_set places new_places len last (get_or heap 0 0) false (q.long ∙ long ∙ sym p.long) (omega (arith, p.long, p.variable 0 (omega arith))) here other where
      here : nat_lt (get_or new_places (get_or heap 0 0) 0) last ≡ false
      here =
          let is : get_or new_places (get_or heap 0 0) 0 ≡ last = ap (λ w. get_or new_places w 0) (sym s.second) ∙ q.place last (omega arith) in
          le-ltb (get_or new_places (get_or heap 0 0) 0) last (omega arith)

      other : (v : ℕ) → v < length places → v ≢ get_or heap 0 0 → nat_lt (get_or new_places v 0) last ≡ nat_lt (get_or places v 0) len
      other v lp n =
          let lv : v < length heap = omega (arith, p.long) in
          let lv' : v < length new_heap = omega arith in
          let r = get_or new_places v 0 in
          let nl : r ≢ last = λ e. n (sym (q.there v lv') ∙ ap (λ k. get_or new_heap k 0) e ∙ s.second) in
          ⊎_elim
          (λ (e : r ≡ 0).
          let was : get_or places v 0 ≡ last = ap (λ w. get_or places w 0) (sym (q.there v lv') ∙ ap (λ k. get_or new_heap k 0) e ∙ s.first) ∙ p.place last (omega arith) in
          lt-ltb r last (omega arith) ∙ sym (lt-ltb (get_or places v 0) len (omega arith)))
          (λ (na : r ≢ 0).
          let was = place_after heap places new_heap new_places 0 last v p q long s lv na nl in
          ⊎_elim
          (λ (inside : r < last). lt-ltb r last inside ∙ sym (lt-ltb (get_or places v 0) len (omega arith)))
          (λ (o : last ≤ r). le-ltb r last o ∙ sym (le-ltb (get_or places v 0) len (omega arith)))
          (cases_lt r last))
          (cases_eq r 0)
