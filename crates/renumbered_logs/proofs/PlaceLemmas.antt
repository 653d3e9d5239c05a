-- The numbers that kept clauses and lemmas have among all clauses.
use Rattle.std.proofs.Common.{◌≡◌, ℕ, ◌+◌, ◌-◌, ◌<◌, ◌≤◌, inl, inr, false, List, [], ◌∷◌, length, get_or, cond, sym, ◌∙◌, ap, subst, arith}
use Rattle.std.specs.Prelude.{nat_eq, map}
use Rattle.std.specs.List.{All, AllPairs, IsDistinct, AllByRecursion}
use Rattle.std.proofs.lemmas.Bool.{cases_lt, eq-eqb, ne_eqb, true≢false}
use Rattle.std.proofs.lemmas.List.Elements.{All-head, All-tail}
use Rattle.std.proofs.lemmas.Map.Keys.{IsDistinct-head, IsDistinct-tail, IsDistinct-cons}
use Rattle.proof_join.proofs.NumberLemmas.{le_true, le_false}
use Rattle.renumbered_logs.specs.Renumbered.{behind_all}

module _ (numbers : List ℕ) (a : ℕ) where
  pub place_low : (n : ℕ) → n ≤ length numbers → behind_all numbers a n ≡ get_or numbers (n - 1) 0
  place_low n h = ap (λ c. cond c (get_or numbers (n - 1) 0) (n - length numbers + a)) (le_true n (length numbers) h)

  pub place_high : (n : ℕ) → length numbers < n → behind_all numbers a n ≡ n - length numbers + a
  place_high n h = ap (λ c. cond c (get_or numbers (n - 1) 0) (n - length numbers + a)) (le_false n (length numbers) h)

  pub place_above : (n : ℕ) → length numbers < n → a < behind_all numbers a n
  place_above n h = let e = place_high n h in subst (λ x. a < x) (sym e) (omega arith)

  pub place_next : (k top id : ℕ) → length numbers ≤ k → top + length numbers ≡ k + a → id ≡ k + 1 → behind_all numbers a id ≡ top + 1
  place_next k top id above even next = place_high id (omega arith) ∙ omega arith

  -- numbers of lemmas rise
  pub place_rises_high : (n k : ℕ) → length numbers < n → n < k → behind_all numbers a n < behind_all numbers a k
  place_rises_high n k low lt =
      let e = place_high n low in
      let f = place_high k (omega arith) in
      subst (λ x. x < behind_all numbers a k) (sym e) (subst (λ x. n - length numbers + a < x) (sym f) (omega arith))

  module _ (rising : AllPairs (λ x y. x < y) numbers) (within : All (λ n. (1 ≤ n) × (n ≤ a)) numbers) where
    pub place_rises : (n k : ℕ) → 1 ≤ n → n < k → behind_all numbers a n < behind_all numbers a k
    place_rises n k some lt = elim (cases_lt (length numbers) n) [
      | inl high ↦ place_rises_high n k high lt
      | inr low ↦ elim (cases_lt (length numbers) k) [
        | inl high ↦
            let most : get_or numbers (n - 1) 0 ≤ a = (within (n - 1) 0 (omega arith)).1 in
            let above = place_above k high in
            subst (λ x. x < behind_all numbers a k) (sym (place_low n low)) (omega arith)
        | inr below ↦
            subst (λ x. x < behind_all numbers a k) (sym (place_low n low))
            (subst (λ x. get_or numbers (n - 1) 0 < x) (sym (place_low k below)) (rising (n - 1) (k - 1) 0 (omega arith) (omega arith)))
      ]
    ]

    pub place_injective : (n k : ℕ) → 1 ≤ n → 1 ≤ k → behind_all numbers a n ≡ behind_all numbers a k → n ≡ k
    place_injective n k low least e = elim (cases_lt n k) [
      | inl lt ↦ let r = place_rises n k low lt in absurd (omega (arith, r, e))
      | inr ge ↦ elim (cases_lt k n) [
        | inl lt ↦ let r = place_rises k n least lt in absurd (omega (arith, r, e))
        | inr le ↦ omega arith
      ]
    ]

    places_apart : (n : ℕ) (ids : List ℕ) → 1 ≤ n → All (λ id. length numbers < id) ids → AllByRecursion (λ y. nat_eq n y ≡ false) ids
        → AllByRecursion (λ y. nat_eq (behind_all numbers a n) y ≡ false) (map (behind_all numbers a) ids)
    places_apart n [] some own h = tt
    places_apart n (k ∷ ids) some own h = (
      ne_eqb (behind_all numbers a n) (behind_all numbers a k) (λ e.
          let above = All-head (λ id. length numbers < id) k ids own in
          differ n k h.0 (place_injective n k some (omega arith) e)),
      places_apart n ids some (All-tail (λ id. length numbers < id) k ids own) h.1,
    )
      where
        differ : (n k : ℕ) → nat_eq n k ≡ false → n ≡ k → ⊥
        differ n k f e = true≢false (sym (eq-eqb n k e) ∙ f)

    pub places_distinct : (ids : List ℕ) → All (λ id. length numbers < id) ids → IsDistinct nat_eq ids → IsDistinct nat_eq (map (behind_all numbers a) ids)
    places_distinct [] own h = h
    places_distinct (n ∷ ids) own h =
        let above = All-head (λ id. length numbers < id) n ids own in
        let rest = All-tail (λ id. length numbers < id) n ids own in
        IsDistinct-cons nat_eq (behind_all numbers a n) (map (behind_all numbers a) ids)
        (places_apart n ids (omega arith) rest (IsDistinct-head nat_eq n ids h))
        (places_distinct ids rest (IsDistinct-tail nat_eq n ids h))
