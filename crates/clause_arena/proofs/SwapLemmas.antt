-- The contents after two literals of a clause are exchanged.
use Rattle.std.proofs.Common.{zero, suc, ◌≡◌, ◌≢◌, ℕ, ◌+◌, ◌<◌, ◌≤◌, Bool, true, false, List, [], ◌∷◌, Some, cond, refl, sym, ◌∙◌, ap, subst, length, get_or, set, take, drop, arith, length-drop, length-take, swap}
use Rattle.std.specs.Option.{option_map}
use Rattle.std.specs.List.{IsDistinct}
use Rattle.std.specs.FinMap.{get, insert, get-insert}
use Rattle.std.specs.Ordering.{nat_cmp, eq_by_cmp}
use Rattle.std.specs.Cmp.{nat_cmp_total}
use Rattle.std.proofs.lemmas.List.{ext_get_or, get_or-take, get_or-drop, get_or-set_other, drop-set-add, length-take-le}
use Rattle.std.proofs.lemmas.List.Edits.{swap_is, length-swap}
use Rattle.std.proofs.lemmas.List.Sorted.{IsPermutation-swap}
use Rattle.std.proofs.lemmas.Map.Keys.{IsDistinct-IsPermutation}
use Rattle.dimacs.specs.logic.Literal.{Literal, Clause, same, Pos}
use Rattle.dimacs.proofs.LiteralLemmas.{same-flips}
use Rattle.clause_arena.specs.declared.slot.Slot.{Slot}
use Rattle.clause_arena.specs.Slots.{Slots}
use Rattle.clause_arena.specs.Contents.{clause_at, value_at, contents}
use Rattle.clause_arena.specs.inner.Contents.{IsArena}
use Rattle.clause_arena.proofs.SlotLemmas.{same_number, same_test}
use Rattle.clause_arena.proofs.ContentLemmas.{get-contents, same_clauses, same_values, length-clause_at}

-- any literal
d : Literal
d = Pos 0

swap_other : (ws : List Literal) (a b k : ℕ) → a < length ws → b < length ws → k ≢ a → k ≢ b → get_or (swap ws a b) k d ≡ get_or ws k d
swap_other ws a b k ha hb ka kb = ap (λ l. get_or l k d) (sym (swap_is ws a b d ha hb)) ∙ get_or-set_other _ b k _ d kb ∙ get_or-set_other ws a k _ d ka

part_same : (ws vs : List Literal) (m n : ℕ) → length vs ≡ length ws → m + n ≤ length ws → ((k : ℕ) → k < n → get_or vs (m + k) d ≡ get_or ws (m + k) d) → take n (drop m vs) ≡ take n (drop m ws)
part_same ws vs m n e f h = ext_get_or d _ _ (simp (length-take, length-drop) (omega arith)) (λ k l. let g : k < n = omega (arith, length-take n (drop m vs)) in rw (get_or-take, get_or-take, get_or-drop, get_or-drop) (h k g))

take_set : (n : ℕ) (l : List Literal) (i : ℕ) (a : Literal) → i < n → take n (set l i a) ≡ set (take n l) i a
take_set zero l i a h = absurd (omega arith)
take_set (suc n) [] i a h = refl
take_set (suc n) (x ∷ l) zero a h = refl
take_set (suc n) (x ∷ l) (suc i) a h = ap (λ t. x ∷ t) (take_set n l i a (omega arith))

swap_part : (ws : List Literal) (m n i j : ℕ) → m + n ≤ length ws → i < n → j < n → take n (drop m (swap ws (m + i) (m + j))) ≡ swap (take n (drop m ws)) i j
swap_part ws m n i j f hi hj =
    let l = length-drop m ws in
    let t : length (take n (drop m ws)) ≡ n = length-take-le n (drop m ws) (omega arith) in
    let x = get_or-take n (drop m ws) i d hi ∙ get_or-drop m ws i d in
    let y = get_or-take n (drop m ws) j d hj ∙ get_or-drop m ws j d in
    ap (λ s. take n (drop m s)) (sym (swap_is ws (m + i) (m + j) d (omega arith) (omega arith)))
    ∙ ap (take n) (drop-set-add m _ j _ ∙ ap (λ s. set s j (get_or ws (m + i) d)) (drop-set-add m ws i _))
    ∙ take_set n _ j _ hj
    ∙ ap (λ s. set s j (get_or ws (m + i) d)) (take_set n (drop m ws) i _ hi)
    ∙ rw (← x, ← y) (swap_is (take n (drop m ws)) i j d (omega arith) (omega arith))

-- the literals after a swap inside the slot of a number
module _ (ws : List Literal) (index : Slots) (arena : IsArena ws index) (number : ℕ) (s : Slot) (there : get index number ≡ Some s) (i j : ℕ) (hi : i < s.len) (hj : j < s.len) where
  abbrev after : List Literal
  after = swap ws (s.place + i) (s.place + j)

  swapped : clause_at after s ≡ swap (clause_at ws s) i j
  swapped = swap_part ws s.place s.len i j (arena.placed number s there) hi hj

  -- a clause of another number
  unswapped : (m : ℕ) (t : Slot) → get index m ≡ Some t → m ≢ number → clause_at after t ≡ clause_at ws t
  unswapped m t e ne =
      let f = arena.placed number s there in
      part_same ws after t.place t.len (length-swap ws _ _) (arena.placed m t e) (λ k lt.
      swap_other ws (s.place + i) (s.place + j) (t.place + k) (omega arith) (omega arith)
      (λ z. ne (arena.apart m number (t.place + k) t s e there (omega arith) (omega arith) (omega arith) (omega arith)))
      (λ z. ne (arena.apart m number (t.place + k) t s e there (omega arith) (omega arith) (omega arith) (omega arith))))

  same_slot : (m : ℕ) (t : Slot) → get index m ≡ Some t → m ≡ number → t ≡ s
  same_slot m t e is = let h : Some t ≡ Some s = sym e ∙ ap (get index) is ∙ there in cc

  distinct_at : (m : ℕ) (t : Slot) → get index m ≡ Some t → (b : Bool) → eq_by_cmp nat_cmp m number ≡ b → IsDistinct same (clause_at after t)
  distinct_at m t e true z =
      let is = same_slot m t e (same_number m number z) in
      let long = length-clause_at ws s (arena.placed number s there) in
      subst (λ x. IsDistinct same (clause_at after x)) (sym is) (subst (λ C. IsDistinct same C) (sym swapped)
      (IsDistinct-IsPermutation same same-flips (clause_at ws s) (swap (clause_at ws s) i j) (IsPermutation-swap (clause_at ws s) (swap (clause_at ws s) i j) i j (omega (arith, long)) (omega (arith, long)) refl) (arena.distinct number s there)))
  distinct_at m t e false z =
      let ne : m ≢ number = λ is. absurd (let h : true ≡ false = sym (same_test m number is) ∙ z in cc) in
      subst (λ C. IsDistinct same C) (sym (unswapped m t e ne)) (arena.distinct m t e)

  pub arena-swap : IsArena after index
  arena-swap = record {
    placed = λ m t e. let f = arena.placed m t e in omega (arith, length-swap ws (s.place + i) (s.place + j));
    distinct = λ m t e. distinct_at m t e (eq_by_cmp nat_cmp m number) refl;
    apart = arena.apart;
  }

  each : (q : ℕ) (b : Bool) → eq_by_cmp nat_cmp q number ≡ b → option_map (value_at after) (get index q) ≡ cond b (Some (s.place, swap (clause_at ws s) i j)) (option_map (value_at ws) (get index q))
  each q true z =
      ap (option_map (value_at after)) (ap (get index) (same_number q number z) ∙ there) ∙ ap (λ (C : Clause). Some (s.place, C)) swapped
  each q false z =
      let ne : q ≢ number = λ is. absurd (let h : true ≡ false = sym (same_test q number is) ∙ z in cc) in
      same_values ws after (get index q) (λ t e. unswapped q t e ne)

  pub contents-swap : contents after index ≡ insert (contents ws index) number (s.place, swap (clause_at ws s) i j)
  contents-swap = same_clauses _ _ (λ q.
      get-contents after index q
      ∙ each q (eq_by_cmp nat_cmp q number) refl
      ∙ sym (get-insert nat_cmp_total (contents ws index) number (s.place, swap (clause_at ws s) i j) q
      ∙ ap (cond (eq_by_cmp nat_cmp q number) (Some (s.place, swap (clause_at ws s) i j))) (get-contents ws index q)))
