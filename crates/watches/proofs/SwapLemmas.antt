-- A clause after two of its literals were swapped.
use Rattle.std.proofs.Common.{◌≡◌, ◌≢◌, ℕ, ◌<◌, inl, inr, length, get_or, swap, refl, ap, sym, ◌∙◌, subst, arith, Contains, All}
use Rattle.std.specs.List.{IsDistinct}
use Rattle.std.proofs.lemmas.Bool.{cases_eq, cases_order, false≢true}
use Rattle.std.proofs.lemmas.List.Edits.{swapped_from_swap, Swapped, length-swap}
use Rattle.std.proofs.lemmas.List.{get_or_default}
use Rattle.std.proofs.lemmas.Map.Keys.{apart_from_distinct}
use Rattle.dimacs.specs.logic.Literal.{Literal, Clause, same}
use Rattle.dimacs.proofs.LiteralLemmas.{same-is}
use Rattle.watches.specs.Law.{IsReordered}

pub swapped : (C : Clause) (a b : ℕ) (d : Literal) → a < length C → b < length C → Swapped (λ i. get_or C i d) (λ i. get_or (swap C a b) i d) a b
swapped C a b d h k = swapped_from_swap C (swap C a b) a b d h k refl

-- what holds of each literal holds of each after a swap
pub all_swapped : (P : Literal → Type 0) (C : Clause) (a b : ℕ) → a < length C → b < length C → All P C → All P (swap C a b)
all_swapped P C a b ha hb h i d l =
    let s = swapped C a b d ha hb in
    let n : i < length C = omega (arith, length-swap C a b) in
    elim (cases_eq i a) [
      | inl e ↦ subst P (sym (ap (λ j. get_or (swap C a b) j d) e ∙ s.0)) (h b d hb)
      | inr x ↦ elim (cases_eq i b) [
        | inl e ↦ subst P (sym (ap (λ j. get_or (swap C a b) j d) e ∙ s.1)) (h a d ha)
        | inr y ↦ subst P (sym (s.2 i x y)) (h i d n)
      ]
    ]

contains_at : (C : Clause) (i : ℕ) (d l : Literal) → i < length C → get_or C i d ≡ l → Contains C l
contains_at C i d l b e = (i, b, get_or_default C i l d b ∙ e)

pub contains_swapped : (C : Clause) (a b : ℕ) (l : Literal) → a < length C → b < length C → Contains C l → Contains (swap C a b) l
contains_swapped C a b l ha hb h =
    let s = swapped C a b l ha hb in
    let n = length-swap C a b in
    elim (cases_eq h.0 a) [
      | inl e ↦ (b, omega arith, s.1 ∙ ap (λ j. get_or C j l) (sym e) ∙ h.2)
      | inr x ↦ elim (cases_eq h.0 b) [
        | inl e ↦ (a, omega arith, s.0 ∙ ap (λ j. get_or C j l) (sym e) ∙ h.2)
        | inr y ↦ (h.0, omega (arith, h.1), s.2 h.0 x y ∙ h.2)
      ]
    ]

pub contains_unswapped : (C : Clause) (a b : ℕ) (l : Literal) → a < length C → b < length C → Contains (swap C a b) l → Contains C l
contains_unswapped C a b l ha hb h =
    let s = swapped C a b l ha hb in
    let n = length-swap C a b in
    elim (cases_eq h.0 a) [
      | inl e ↦ (b, hb, sym s.0 ∙ ap (λ j. get_or (swap C a b) j l) (sym e) ∙ h.2)
      | inr x ↦ elim (cases_eq h.0 b) [
        | inl e ↦ (a, ha, sym s.1 ∙ ap (λ j. get_or (swap C a b) j l) (sym e) ∙ h.2)
        | inr y ↦ (h.0, omega (arith, h.1), sym (s.2 h.0 x y) ∙ h.2)
      ]
    ]

pub reordered : (C : Clause) (a b : ℕ) → a < length C → b < length C → IsReordered C (swap C a b)
reordered C a b ha hb = record { len = length-swap C a b; literals = λ l. (contains_swapped C a b l ha hb, contains_unswapped C a b l ha hb) }

-- literals at two places of a clause without repeats
pub apart_at : (C : Clause) (i j : ℕ) (d : Literal) → IsDistinct same C → i < length C → j < length C → i ≢ j → get_or C i d ≢ get_or C j d
apart_at C i j d s a b n e = elim (cases_order i j) [
  | inl x ↦ n x
  | inr y ↦ elim y [
    | inl l ↦ false≢true (sym (apart_from_distinct same C i j d s l b) ∙ same-is _ _ e)
    | inr l ↦ false≢true (sym (apart_from_distinct same C j i d s l a) ∙ same-is _ _ (sym e))
  ]
]
