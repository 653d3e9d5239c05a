-- The list of moves has exactly the clauses whose place changed, in the order of numbers.
use Rattle.std.proofs.Common.{◌≡◌, ◌≢◌, ℕ, zero, suc, ◌+◌, ◌<◌, inl, inr, Bool, true, false, List, [], ◌∷◌, ◌++◌, Some, None, cond, refl, sym, ◌∙◌, ap, subst, length, map, arith, get_or, Contains}
use Rattle.std.specs.Prelude.{T, nat_eq}
use Rattle.std.specs.FinMap.{find, is_sorted}
use Rattle.std.specs.FinMap.Entries.{below_all}
use Rattle.std.specs.Ordering.{nat_cmp, eq_by_cmp}
use Rattle.std.proofs.lemmas.Bool.{eqb-false, ne_eqb}
use Rattle.std.proofs.lemmas.List.Elements.{Contains-append_left, Contains-append_right, Contains-append_cases, Contains-get_or}
use Rattle.clause_arena.specs.declared.reference.Ref.{Ref}
use Rattle.clause_arena.specs.declared.slot.Slot.{Slot}
use Rattle.clause_arena.specs.inner.Contents.{slot_of}
use Rattle.clause_arena.specs.inner.Relocation.{ref_of, moves_from}
use Rattle.clause_arena.proofs.SlotLemmas.{same_number, same_test}
use Rattle.clause_arena.proofs.SortedLemmas.{first_of_both, second_of_both, found_above}
use Rattle.clause_arena.proofs.RelocationLemmas.{packed, slot_from, found_behind, found_whole}

-- a clause of the entries that comes to stand elsewhere
pub record IsTold (es : List (ℕ × Slot)) (p : ℕ) (a b : Ref) : Type 0 where
  pub number : b.number ≡ a.number
  pub before : find nat_cmp a.number es ≡ Some (slot_of a)
  pub after : find nat_cmp a.number (packed p es) ≡ Some (slot_of b)
  pub elsewhere : a.place ≢ b.place

-- the move of an entry
abbrev pub move : ℕ → ℕ × Slot → Ref × Ref
move p e = (ref_of e, record { number = e.0; place = p; len = e.1.len })

none_in : (a : Ref × Ref) → Contains [] a → ⊥
none_in a h = let lt = h.1 in omega arith

only : (x a : Ref × Ref) → Contains (x ∷ []) a → x ≡ a
only x a (zero, lt, is) = is
only x a (suc k, lt, is) = absurd (omega arith)

-- ---- what is told has moved
told_first : (e : ℕ × Slot) (es : List (ℕ × Slot)) (p : ℕ) (a b : Ref) → p ≢ e.1.place → move p e ≡ (a, b) → IsTold (e ∷ es) p a b
told_first e es p a b ne same =
    let to_a : ref_of e ≡ a = ap (λ (x : Ref × Ref). x.0) same in
    let to_b : (move p e).1 ≡ b = ap (λ (x : Ref × Ref). x.1) same in
    let number : a.number ≡ e.0 = ap (λ (x : Ref). x.number) (sym to_a) in
    let test = same_test a.number e.0 number in
    let old = ap (λ (x : Ref). x.place) to_a in
    let new = ap (λ (x : Ref). x.place) to_b in
    record {
      number = ap (λ (x : Ref). x.number) (sym to_b) ∙ sym number;
      before = ap (λ c. cond c (Some e.1) (find nat_cmp a.number es)) test ∙ ap (λ (x : Ref). Some (slot_of x)) to_a;
      after = ap (λ c. cond c (Some (slot_from p e.1)) (find nat_cmp a.number (packed (p + e.1.len) es))) test ∙ ap (λ (x : Ref). Some (slot_of x)) to_b;
      elsewhere = λ z. ne (new ∙ sym z ∙ sym old);
    }

told_later : (e : ℕ × Slot) (es : List (ℕ × Slot)) (p : ℕ) (a b : Ref) → T (is_sorted nat_cmp (e ∷ es)) → IsTold es (p + e.1.len) a b → IsTold (e ∷ es) p a b
told_later e es p a b sorted h =
    let test = found_behind e es sorted a.number (slot_of a) h.before in
    record {
      number = h.number;
      before = found_whole e es sorted a.number (slot_of a) h.before;
      after = ap (λ c. cond c (Some (slot_from p e.1)) (find nat_cmp a.number (packed (p + e.1.len) es))) test ∙ h.after;
      elsewhere = h.elsewhere;
    }

pub told_has_moved : (es : List (ℕ × Slot)) (p : ℕ) (a b : Ref) → T (is_sorted nat_cmp es) → Contains (moves_from p (map ref_of es)) (a, b) → IsTold es p a b
told_has_moved [] p a b sorted h = absurd (none_in (a, b) h)
told_has_moved (e ∷ es) p a b sorted h =
    elim (nat_eq p e.1.place) as (λ c. nat_eq p e.1.place ≡ c → Contains (cond c [] (move p e ∷ []) ++ moves_from (p + e.1.len) (map ref_of es)) (a, b) → IsTold (e ∷ es) p a b) [
      | true ↦ λ t h. told_later e es p a b sorted (told_has_moved es (p + e.1.len) a b (second_of_both _ _ sorted) h)
      | false ↦ λ t h. elim (Contains-append_cases (move p e ∷ []) (moves_from (p + e.1.len) (map ref_of es)) (a, b) h) [
        | inl l ↦ told_first e es p a b (eqb-false p e.1.place t) (only (move p e) (a, b) l)
        | inr l ↦ told_later e es p a b sorted (told_has_moved es (p + e.1.len) a b (second_of_both _ _ sorted) l)
      ]
    ] refl h

-- ---- what has moved is told
same_some : (s t : Slot) → Some s ≡ Some t → s ≡ t
same_some s t e = cc

none_some : (s : Slot) → None ≡ Some s → ⊥
none_some s e = cc

same_move : (e : ℕ × Slot) (p : ℕ) (a b : Ref) → a.number ≡ e.0 → b.number ≡ a.number → e.1 ≡ slot_of a → slot_from p e.1 ≡ slot_of b → move p e ≡ (a, b)
same_move e p a b n m s t =
    let to_a : ref_of e ≡ a = λ i. record { number = sym n i; place = (s i).place; len = (s i).len } in
    let back : e.0 ≡ b.number = sym n ∙ sym m in
    let to_b : (move p e).1 ≡ b = λ i. record { number = back i; place = (t i).place; len = (t i).len } in
    λ i. (to_a i, to_b i)

pub moved_is_told : (es : List (ℕ × Slot)) (p : ℕ) (a b : Ref) → IsTold es p a b → Contains (moves_from p (map ref_of es)) (a, b)
moved_is_told [] p a b h = absurd (none_some (slot_of a) h.before)
moved_is_told (e ∷ es) p a b h =
    elim (eq_by_cmp nat_cmp a.number e.0) as (λ c. eq_by_cmp nat_cmp a.number e.0 ≡ c → cond c (Some e.1) (find nat_cmp a.number es) ≡ Some (slot_of a)
    → cond c (Some (slot_from p e.1)) (find nat_cmp a.number (packed (p + e.1.len) es)) ≡ Some (slot_of b)
    → Contains (cond (nat_eq p e.1.place) [] (move p e ∷ []) ++ moves_from (p + e.1.len) (map ref_of es)) (a, b)) [
      | true ↦ λ t before after.
          let s = same_some e.1 (slot_of a) before in
          let u = same_some (slot_from p e.1) (slot_of b) after in
          let old = ap (λ (x : Slot). x.place) s in
          let new = ap (λ (x : Slot). x.place) u in
          let ne : p ≢ e.1.place = λ z. h.elsewhere (sym old ∙ sym z ∙ new) in
          subst (λ c. Contains (cond c [] (move p e ∷ []) ++ moves_from (p + e.1.len) (map ref_of es)) (a, b)) (sym (ne_eqb p e.1.place ne))
          (Contains-append_left (move p e ∷ []) (moves_from (p + e.1.len) (map ref_of es)) (a, b) (0, omega arith, same_move e p a b (same_number a.number e.0 t) h.number s u))
      | false ↦ λ t before after.
          Contains-append_right (cond (nat_eq p e.1.place) [] (move p e ∷ [])) (moves_from (p + e.1.len) (map ref_of es)) (a, b)
          (moved_is_told es (p + e.1.len) a b (record { number = h.number; before = before; after = after; elsewhere = h.elsewhere }))
    ] refl h.before h.after

-- ---- by rising numbers
moves_above : (x : ℕ) (es : List (ℕ × Slot)) (p : ℕ) → T (below_all nat_cmp x es) → T (is_sorted nat_cmp es) → (i : ℕ) (d : Ref × Ref) → i < length (moves_from p (map ref_of es)) → x < (get_or (moves_from p (map ref_of es)) i d).0.number
moves_above x es p below sorted i d lt =
    let a = get_or (moves_from p (map ref_of es)) i d in
    let told = told_has_moved es p a.0 a.1 sorted (Contains-get_or (moves_from p (map ref_of es)) i d lt) in
    found_above x es below a.0.number (slot_of a.0) told.before

rise_after : (c : Bool) (x : Ref × Ref) (rest : List (Ref × Ref)) (d : Ref × Ref)
    → ((i : ℕ) (d : Ref × Ref) → i < length rest → x.0.number < (get_or rest i d).0.number)
    → ((i j : ℕ) → i < j → j < length rest → (get_or rest i d).0.number < (get_or rest j d).0.number)
    → (i j : ℕ) → i < j → j < length (cond c [] (x ∷ []) ++ rest) → (get_or (cond c [] (x ∷ []) ++ rest) i d).0.number < (get_or (cond c [] (x ∷ []) ++ rest) j d).0.number
rise_after true x rest d above rises i j lt within = rises i j lt within
rise_after false x rest d above rises i zero lt within = absurd (omega arith)
rise_after false x rest d above rises zero (suc j) lt within = above j d (omega arith)
rise_after false x rest d above rises (suc i) (suc j) lt within = rises i j (omega arith) (omega arith)

pub moves_rise : (es : List (ℕ × Slot)) (p : ℕ) → T (is_sorted nat_cmp es) → (i j : ℕ) (d : Ref × Ref) → i < j → j < length (moves_from p (map ref_of es))
    → (get_or (moves_from p (map ref_of es)) i d).0.number < (get_or (moves_from p (map ref_of es)) j d).0.number
moves_rise [] p sorted i j d lt within = absurd (omega arith)
moves_rise (e ∷ es) p sorted i j d lt within =
    rise_after (nat_eq p e.1.place) (move p e) (moves_from (p + e.1.len) (map ref_of es)) d
    (moves_above e.0 es (p + e.1.len) (first_of_both _ _ sorted) (second_of_both _ _ sorted))
    (λ i j. moves_rise es (p + e.1.len) (second_of_both _ _ sorted) i j d)
    i j lt within
