-- Rows added after the others.
use Rattle.std.proofs.Common.{◌≡◌, ℕ, ◌+◌, ◌-◌, ◌^◌, ◌<◌, ◌≤◌, false, List, [], ◌∷◌, ◌++◌, length, replicate, get_or, sym, ap, ◌∙◌, arith, ⊎_elim, nat_lt, append_assoc, length-append}
use Rattle.std.proofs.lemmas.Bool.{cases_lt, le-ltb}
use Rattle.std.proofs.lemmas.List.{get_or_append_left, map-append, replicate-append-replicate}
use Rattle.std.proofs.Math.Seq.{get_or-append_seam}
use Rattle.decide_heap.specs.Decisions.{IsNoWorse}
use Rattle.decide_heap.specs.Heap.{members_of}
use Rattle.decide_heap.specs.inner.Heap.{Tables, parent, ArePaired, IsHeap}
use Rattle.decide_heap.proofs.OrderLemmas.{no_worse_at}

-- the entry after a list
at_end : (xs : List ℕ) (y n : ℕ) → n ≡ length xs → get_or (xs ++ y ∷ []) n 0 ≡ y
at_end xs y n e = ap (λ k. get_or (xs ++ y ∷ []) k 0) e ∙ get_or-append_seam xs y [] 0

-- one more variable, after all others
pub paired_push : (heap places : List ℕ) (n : ℕ) → ArePaired heap places → n ≡ length heap → ArePaired (heap ++ n ∷ []) (places ++ n ∷ [])
paired_push heap places n p e =
    let size = length-append heap (n ∷ []) in
    let rows = length-append places (n ∷ []) in
    record {
      long = omega (arith, p.long, size, rows);
      variable = λ i lt. rw size (variable i (rw (← size) lt));
      place = λ i lt. place i (rw (← size) lt);
      within = λ i lt. rw size (within i (rw (← size) lt));
      there = λ i lt. there i (rw (← size) lt);
    } where
      old : (xs : List ℕ) (i : ℕ) → i < length xs → get_or (xs ++ n ∷ []) i 0 ≡ get_or xs i 0
      old xs i lt = get_or_append_left xs (n ∷ []) 0 i lt

      variable : (i : ℕ) → i < length heap + length (n ∷ []) → get_or (heap ++ n ∷ []) i 0 < length heap + length (n ∷ [])
      variable i lt = ⊎_elim
          (λ (less : i < length heap). let v = p.variable i less in omega (arith, old heap i less, v))
          (λ (last : length heap ≤ i). let is = at_end heap n i (omega arith) in omega (arith, is))
          (cases_lt i (length heap))

      within : (i : ℕ) → i < length heap + length (n ∷ []) → get_or (places ++ n ∷ []) i 0 < length heap + length (n ∷ [])
      within i lt = ⊎_elim
          (λ (less : i < length heap). let v = p.within i less in let is = old places i (omega (arith, p.long)) in omega (arith, is, v))
          (λ (last : length heap ≤ i). let is = at_end places n i (omega (arith, p.long)) in omega (arith, is))
          (cases_lt i (length heap))

      place : (i : ℕ) → i < length heap + length (n ∷ []) → get_or (places ++ n ∷ []) (get_or (heap ++ n ∷ []) i 0) 0 ≡ i
      place i lt = ⊎_elim
          (λ (less : i < length heap).
          ap (λ v. get_or (places ++ n ∷ []) v 0) (old heap i less) ∙ old places (get_or heap i 0) (omega (arith, p.long, p.variable i less)) ∙ p.place i less)
          (λ (last : length heap ≤ i).
          ap (λ v. get_or (places ++ n ∷ []) v 0) (at_end heap n i (omega arith)) ∙ at_end places n n (omega (arith, p.long)) ∙ omega arith)
          (cases_lt i (length heap))

      there : (i : ℕ) → i < length heap + length (n ∷ []) → get_or (heap ++ n ∷ []) (get_or (places ++ n ∷ []) i 0) 0 ≡ i
      there i lt = ⊎_elim
          (λ (less : i < length heap).
          ap (λ v. get_or (heap ++ n ∷ []) v 0) (old places i (omega (arith, p.long))) ∙ old heap (get_or places i 0) (p.within i less) ∙ p.there i less)
          (λ (last : length heap ≤ i).
          ap (λ v. get_or (heap ++ n ∷ []) v 0) (at_end places n i (omega (arith, p.long))) ∙ at_end heap n n e ∙ omega arith)
          (cases_lt i (length heap))

-- with a row more in each table
abbrev pub pushed : Tables → ℕ → Tables
pushed t n = record t { heap = t.heap ++ n ∷ []; places = t.places ++ n ∷ []; scores = t.scores ++ 0 ∷ [] }

pub heap_push : (t : Tables) (n : ℕ) → IsHeap t → n ≡ length t.scores → n + 1 < 2 ^ 31 → IsHeap (pushed t n)
heap_push t n h e lt =
    let r = h.rows in
    let size = length-append t.heap (n ∷ []) in
    let rows = length-append t.scores (0 ∷ []) in
    record {
      rows = record {
        limit = omega (arith, rows);
        size = omega (arith, size, rows, r.size);
        count = omega (arith, rows, r.count);
        paired = paired_push t.heap t.places n r.paired (e ∙ sym r.size);
      };
      ordered = record { below = below };
    } where
      old : (i : ℕ) → i < t.len → get_or (t.heap ++ n ∷ []) i 0 ≡ get_or t.heap i 0
      old i less = get_or_append_left t.heap (n ∷ []) 0 i (omega (arith, h.rows.size, h.rows.count))

      score : (i : ℕ) → i < t.len → get_or (t.scores ++ 0 ∷ []) (get_or t.heap i 0) 0 ≡ get_or t.scores (get_or t.heap i 0) 0
      score i less =
          let li : i < length t.heap = omega (arith, h.rows.size, h.rows.count) in
          get_or_append_left t.scores (0 ∷ []) 0 (get_or t.heap i 0) (omega (arith, h.rows.size, h.rows.paired.variable i li))

      below : (c : ℕ) → 0 < c → c < t.len → 0 ≤ parent c → IsNoWorse (λ v. get_or (t.scores ++ 0 ∷ []) v 0) (get_or (t.heap ++ n ∷ []) (parent c) 0) (get_or (t.heap ++ n ∷ []) c 0)
      below c some lc from =
          let up : parent c < t.len = omega arith in
          let b = h.ordered.below c some lc from in
          let x = b.greater in
          let s = score c lc in
          let u = score (parent c) up in
          no_worse_at (t.scores ++ 0 ∷ []) _ _ _ _ (old (parent c) up) (old c lc) (record {
            greater = omega (arith, x, s, u);
            lower = λ tie. b.lower (omega (arith, s, u, tie));
          })

pub members_push : (places : List ℕ) (len n : ℕ) → len ≤ n → members_of (places ++ n ∷ []) len ≡ members_of places len ++ false ∷ []
members_push places len n le = map-append (λ p. nat_lt p len) places (n ∷ []) ∙ ap (λ b. members_of places len ++ b ∷ []) (le-ltb n len le)

-- one more copy at the end
pub one_more_copy : {A : Type 0} (a : A) (xs ys : List A) (i from : ℕ) → from ≤ i → ys ≡ xs ++ replicate (i - from) a → ys ++ a ∷ [] ≡ xs ++ replicate (i + 1 - from) a
one_more_copy a xs ys i from le e =
    let k : (i - from) + 1 ≡ i + 1 - from = omega arith in
    ap (λ zs. zs ++ a ∷ []) e ∙ append_assoc xs (replicate (i - from) a) (a ∷ []) ∙ ap (λ zs. xs ++ zs) (replicate-append-replicate (i - from) 1 a ∙ ap (λ m. replicate m a) k)
