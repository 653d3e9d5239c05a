-- The literals of a clause, each once.
use Rattle.std.proofs.Common.{◌≡◌, ℕ, suc, ◌+◌, ◌<◌, ◌≤◌, nat_le, Bool, true, false, ◌||◌, ◌&&◌, cond, [], ◌∷◌, ◌++◌, length, get_or, take, drop, refl, sym, ap, subst, ◌∙◌, arith, inl, inr, append_assoc, length-append}
use Rattle.std.specs.List.{All, Contains}
use Rattle.std.proofs.lemmas.Bool.{cases_Bool, or_left, or_right, or_from, or_parts, le-leb, lt-leb, cond-true, cond-false}
use Rattle.std.proofs.lemmas.List.{append-nil, take_more, take-append-drop}
use Rattle.std.proofs.lemmas.List.Elements.{All-nil, All-cons, All-contains}
use Rattle.std.proofs.lemmas.List.Folds.{list_any-append}
use Rattle.dimacs.specs.logic.Literal.{Literal, Clause, same, has}
use Rattle.dimacs.proofs.LiteralLemmas.{same-is, same-flips, same_or_not, same-false}
use Rattle.dimacs.proofs.Members.{Contains-head, Contains-cons, Contains-has, has-Contains}
use Rattle.cube_split.specs.Pairs.{distinct, is_short}
use Rattle.cube_split.specs.inner.Ranks.{AreOnce, AreDistinctOf}

or_false : (a : Bool) → (a || false) ≡ a
or_false true = refl
or_false false = refl

has_push : (C : Clause) (k l : Literal) → has (C ++ k ∷ []) l ≡ (has C l || same l k)
has_push C k l = list_any-append (same l) C (k ∷ []) ∙ ap (λ (b : Bool). has C l || b) (or_false (same l k))

-- one more literal is counted unless it stood there
pub distinct_push : (C : Clause) (k : Literal) → distinct (C ++ k ∷ []) ≡ distinct C + cond (has C k) 0 1
distinct_push [] k = refl
distinct_push (l ∷ C) k = elim (cases_Bool (has C l)) [
  | inl there ↦
      let more : has (C ++ k ∷ []) l ≡ true = has_push C k l ∙ or_left (has C l) (same l k) there in
      let rest = distinct_push C k in
      let as_before : has (l ∷ C) k ≡ has C k = met C k l there in
      cond-true (has (C ++ k ∷ []) l) (distinct (C ++ k ∷ [])) (suc (distinct (C ++ k ∷ []))) more
      ∙ rest
      ∙ ap (λ (b : Bool). distinct C + cond b 0 1) (sym as_before)
      ∙ ap (λ (n : ℕ). n + cond (has (l ∷ C) k) 0 1) (sym (cond-true (has C l) (distinct C) (suc (distinct C)) there))
  | inr none ↦ elim (same_or_not k l) [
    | inl e ↦
        let more : has (C ++ k ∷ []) l ≡ true = has_push C k l ∙ or_right (has C l) (same l k) (same-is l k (sym e)) in
        let new : has C k ≡ false = ap (has C) e ∙ none in
        let here : has (l ∷ C) k ≡ true = or_left (same k l) (has C k) (same-is k l e) in
        let rest = distinct_push C k in
        let plus : cond {A = ℕ} (has C k) 0 1 ≡ 1 = cond-false (has C k) 0 1 new in
        let zero : cond {A = ℕ} (has (l ∷ C) k) 0 1 ≡ 0 = cond-true (has (l ∷ C) k) 0 1 here in
        let left = cond-true (has (C ++ k ∷ []) l) (distinct (C ++ k ∷ [])) (suc (distinct (C ++ k ∷ []))) more in
        let right = cond-false (has C l) (distinct C) (suc (distinct C)) none in
        omega arith
    | inr ne ↦
        let more : has (C ++ k ∷ []) l ≡ false = has_push C k l ∙ or_from (has C l) (same l k) none (same-false l k (λ e. ne (sym e))) in
        let other : has (l ∷ C) k ≡ has C k = ap (λ (b : Bool). b || has C k) (same-false k l ne) in
        let rest = distinct_push C k in
        let left = cond-false (has (C ++ k ∷ []) l) (distinct (C ++ k ∷ [])) (suc (distinct (C ++ k ∷ []))) more in
        let right = cond-false (has C l) (distinct C) (suc (distinct C)) none in
        let same_cond : cond {A = ℕ} (has (l ∷ C) k) 0 1 ≡ cond (has C k) 0 1 = ap (λ (b : Bool). cond {A = ℕ} b 0 1) other in
        omega arith
  ]
]
  where
    met : (C : Clause) (k l : Literal) → has C l ≡ true → has (l ∷ C) k ≡ has C k
    met C k l there = elim (same_or_not k l) [
      | inl e ↦ or_left (same k l) (has C k) (same-is k l e) ∙ sym (ap (has C) e ∙ there)
      | inr ne ↦ ap (λ (b : Bool). b || has C k) (same-false k l ne)
    ]

distinct_grows : (C D : Clause) → distinct C ≤ distinct (C ++ D)
distinct_grows C [] = let e = ap distinct (append-nil C) in omega arith
distinct_grows C (l ∷ D) =
    let a = distinct_grows (C ++ l ∷ []) D in
    let b = distinct_push C l in
    let e = ap distinct (append_assoc C (l ∷ []) D) in
    omega arith

-- ---- the walk along a clause
pub gathered_none : AreDistinctOf [] []
gathered_none = record { same = λ l. refl; once = tt; count = refl }

once_push : (D : Clause) (k : Literal) → AreOnce D → has D k ≡ false → AreOnce (D ++ k ∷ [])
once_push [] k h new = (refl, tt)
once_push (l ∷ D) k h new =
    let parts = or_parts (same k l) (has D k) new in
    (has_push D k l ∙ or_from (has D l) (same l k) h.0 (same-flips l k ∙ parts.0), once_push D k h.1 parts.1)

same_or : (a b : Bool) (c : Bool) → a ≡ b → (a || c) ≡ (b || c)
same_or a b c e = ap (λ (x : Bool). x || c) e

pub gathered_new : (C D : Clause) (i : ℕ) (k : Literal) → i < length C → k ≡ get_or C i k → AreDistinctOf (take i C) D → has D k ≡ false → AreDistinctOf (take (i + 1) C) (D ++ k ∷ [])
gathered_new C D i k below is h new = subst (λ (E : Clause). AreDistinctOf E (D ++ k ∷ [])) (sym (next C i k below is)) (record {
  same = λ l. has_push D k l ∙ same_or (has D l) (has (take i C) l) (same l k) (h.same l) ∙ sym (has_push (take i C) k l);
  once = once_push D k h.once new;
  count =
      let a = length-append D (k ∷ []) in
      let b = h.count in
      let c = distinct_push (take i C) k in
      let d : cond {A = ℕ} (has (take i C) k) 0 1 ≡ 1 = cond-false (has (take i C) k) 0 1 (sym (h.same k) ∙ new) in
      omega arith;
})
  where
    next : (C : Clause) (i : ℕ) (k : Literal) → i < length C → k ≡ get_or C i k → take (i + 1) C ≡ take i C ++ k ∷ []
    next C i k below is = take_more C i k below ∙ ap (λ (l : Literal). take i C ++ l ∷ []) (sym is)

pub gathered_again : (C D : Clause) (i : ℕ) (k : Literal) → i < length C → k ≡ get_or C i k → AreDistinctOf (take i C) D → has D k ≡ true → AreDistinctOf (take (i + 1) C) D
gathered_again C D i k below is h met = subst (λ (E : Clause). AreDistinctOf E D) (sym (take_more C i k below ∙ ap (λ (l : Literal). take i C ++ l ∷ []) (sym is))) (record {
  same = λ l. h.same l ∙ sym (has_push (take i C) k l ∙ inside l);
  once = h.once;
  count =
      let b = h.count in
      let c = distinct_push (take i C) k in
      let d : cond {A = ℕ} (has (take i C) k) 0 1 ≡ 0 = cond-true (has (take i C) k) 0 1 (sym (h.same k) ∙ met) in
      omega arith;
})
  where
    inside : (l : Literal) → (has (take i C) l || same l k) ≡ has (take i C) l
    inside l = elim (same_or_not l k) [
      | inl e ↦
          let there : has (take i C) l ≡ true = sym (h.same l) ∙ ap (has D) e ∙ met in
          or_left (has (take i C) l) (same l k) there ∙ sym there
      | inr ne ↦ ap (λ (b : Bool). has (take i C) l || b) (same-false l k ne) ∙ or_false (has (take i C) l)
    ]

-- ---- what is told
four_or_more : (n : ℕ) → 3 < n → (nat_le 2 n && nat_le n 3) ≡ false
four_or_more n h = ap (λ (b : Bool). nat_le 2 n && b) (lt-leb n 3 h) ∙ and_false (nat_le 2 n)
  where
    and_false : (b : Bool) → (b && false) ≡ false
    and_false true = refl
    and_false false = refl

pub too_long : (C D : Clause) (i : ℕ) (k : Literal) → i < length C → k ≡ get_or C i k → AreDistinctOf (take i C) D → has D k ≡ false → length D ≡ 3 → false ≡ is_short C
too_long C D i k below is h new long =
    let next = gathered_new C D i k below is h new in
    let a = next.count in
    let b = length-append D (k ∷ []) in
    let c = distinct_grows (take (i + 1) C) (drop (i + 1) C) in
    let d = ap distinct (take-append-drop (i + 1) C) in
    sym (four_or_more (distinct C) (omega arith))

pub told_length : (C D : Clause) → AreDistinctOf C D → length D ≤ 3 → nat_le 2 (length D) ≡ is_short C
told_length C D h few =
    let up : nat_le (distinct C) 3 ≡ true = le-leb (distinct C) 3 (let e = h.count in omega arith) in
    ap (nat_le 2) h.count ∙ sym (and_true (nat_le 2 (distinct C))) ∙ sym (ap (λ (b : Bool). nat_le 2 (distinct C) && b) up)
  where
    and_true : (b : Bool) → (b && true) ≡ b
    and_true true = refl
    and_true false = refl

-- what holds of each literal of a clause holds of each that was gathered
pub all_gathered : (P : Literal → Type 0) (C D : Clause) → AreDistinctOf C D → All P C → All P D
all_gathered P C D h all = inside D (λ l there. All-contains P C l all (has-Contains C l (sym (h.same l) ∙ Contains-has D l there)))
  where
    inside : (E : Clause) → ((l : Literal) → Contains E l → P l) → All P E
    inside [] f = All-nil P
    inside (l ∷ E) f = All-cons P l E (f l (Contains-head l E)) (inside E (λ k there. f k (Contains-cons l k E there)))
