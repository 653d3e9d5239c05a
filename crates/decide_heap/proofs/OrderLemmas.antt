-- The heap order while a variable is sifted up or down.
use Rattle.std.proofs.Common.{◌≡◌, ◌≢◌, ℕ, zero, suc, ◌+◌, ◌*◌, ◌/◌, ◌<◌, ◌≤◌, List, get_or, refl, sym, ap, ◌∙◌, arith, ⊎_elim}
use Rattle.std.specs.Prelude.{slice_index}
use Rattle.std.proofs.lemmas.Bool.{cases_eq}
use Rattle.decide_heap.specs.Decisions.{IsNoWorse}
use Rattle.decide_heap.specs.inner.Heap.{parent, AreSwapped, IsOver, IsOrdered, IsRising}

-- no worse, by the scores of a list
abbrev pub NoWorse : List ℕ → ℕ → ℕ → Type 0
NoWorse scores v w = IsNoWorse (slice_index scores) v w

pub no_worse_same : (scores : List ℕ) (v : ℕ) → NoWorse scores v v
no_worse_same scores v = record { greater = omega arith; lower = λ e. omega arith }

pub no_worse_through : (scores : List ℕ) (u v w : ℕ) → NoWorse scores u v → NoWorse scores v w → NoWorse scores u w
no_worse_through scores u v w a b =
    let x = a.greater in
    let y = b.greater in
    record {
      greater = omega (arith, x, y);
      lower = λ e.
          let p : get_or scores v 0 ≡ get_or scores u 0 = omega (arith, x, y, e) in
          let q : get_or scores w 0 ≡ get_or scores v 0 = omega (arith, x, y, e) in
          omega (arith, a.lower p, b.lower q);
    }

-- between equal variables
pub no_worse_at : (scores : List ℕ) (u v w x : ℕ) → w ≡ u → x ≡ v → NoWorse scores u v → NoWorse scores w x
no_worse_at scores u v w x e f h = rw (e, f) h

-- over both of two places beside one another
pub over_both : (scores heap : List ℕ) (len left at : ℕ) → IsOver scores heap at left → (left + 1 < len → IsOver scores heap at (left + 1))
    → (k : ℕ) → left ≤ k → k ≤ left + 1 → k < len → IsOver scores heap at k
over_both scores heap len left at first second k low high lt = ⊎_elim
    (λ (e : k ≡ left). no_worse_at scores _ _ _ _ refl (ap (λ i. get_or heap i 0) e) first)
    (λ (n : k ≢ left).
    let e : k ≡ left + 1 = omega arith in
    no_worse_at scores _ _ _ _ refl (ap (λ i. get_or heap i 0) e) (second (omega arith)))
    (cases_eq k left)

-- one place up
pub rising_step : (scores old new : List ℕ) (len at above : ℕ) → above ≡ parent at → 0 < at → at < len → AreSwapped old new at above
    → NoWorse scores (get_or old at 0) (get_or old above 0) → IsRising scores old len at → IsRising scores new len above
rising_step scores old new len at above is up lt s better h = record { others = others; across = across } where
  others : (c : ℕ) → 0 < c → c < len → c ≢ above → NoWorse scores (get_or new (parent c) 0) (get_or new c 0)
  others c some lc nc = ⊎_elim
      (λ (e : c ≡ at). no_worse_at scores _ _ _ _ (ap (λ k. get_or new (parent k) 0) e ∙ ap (λ k. get_or new k 0) (sym is) ∙ s.second) (ap (λ k. get_or new k 0) e ∙ s.first) better)
      (λ (na : c ≢ at). ⊎_elim
      (λ (e : parent c ≡ at).
      no_worse_at scores _ _ _ _ (ap (λ k. get_or new k 0) e ∙ s.first ∙ ap (λ k. get_or old k 0) is) (s.others c na nc) (h.across c some lc e up))
      (λ (np : parent c ≢ at). ⊎_elim
      (λ (e : parent c ≡ above).
      no_worse_at scores _ _ _ _ (ap (λ k. get_or new k 0) e ∙ s.second) (s.others c na nc)
      (no_worse_through scores _ _ _ better (no_worse_at scores _ _ _ _ (ap (λ k. get_or old k 0) (sym e)) refl (h.others c some lc na))))
      (λ (nq : parent c ≢ above). no_worse_at scores _ _ _ _ (s.others (parent c) np nq) (s.others c na nc) (h.others c some lc na))
      (cases_eq (parent c) above))
      (cases_eq (parent c) at))
      (cases_eq c at)

  across : (c : ℕ) → 0 < c → c < len → parent c ≡ above → 0 < above → NoWorse scores (get_or new (parent above) 0) (get_or new c 0)
  across c some lc pc more =
      let na : above ≢ at = omega arith in
      let nc : c ≢ above = omega arith in
      let pa : parent above ≢ at = omega arith in
      let pb : parent above ≢ above = omega arith in
      let top = h.others above more (omega arith) na in
      ⊎_elim
      (λ (e : c ≡ at). no_worse_at scores _ _ _ _ (s.others (parent above) pa pb) (ap (λ k. get_or new k 0) e ∙ s.first) top)
      (λ (n : c ≢ at). no_worse_at scores _ _ _ _ (s.others (parent above) pa pb) (s.others c n nc)
      (no_worse_through scores _ _ _ top (no_worse_at scores _ _ _ _ (ap (λ k. get_or old k 0) (sym pc)) refl (h.others c some lc n))))
      (cases_eq c at)

-- at the top
pub rising_top : (scores heap : List ℕ) (len at : ℕ) → at ≤ 0 → IsRising scores heap len at → IsOrdered scores heap len 0
rising_top scores heap len at top h = record { below = λ c some lc from. h.others c some lc (omega arith) }

-- below one that is no worse
pub rising_rests : (scores heap : List ℕ) (len at above : ℕ) → above ≡ parent at → NoWorse scores (get_or heap above 0) (get_or heap at 0) → IsRising scores heap len at → IsOrdered scores heap len 0
rising_rests scores heap len at above is worse h = record {
  below = λ c some lc from. ⊎_elim
      (λ (e : c ≡ at). no_worse_at scores _ _ _ _ (ap (λ k. get_or heap (parent k) 0) e ∙ ap (λ k. get_or heap k 0) (sym is)) (ap (λ k. get_or heap k 0) e) worse)
      (λ (n : c ≢ at). h.others c some lc n)
      (cases_eq c at);
}

-- in order from a place on, but that the variable at one place may be worse than those below it
pub record IsSinking (scores heap : List ℕ) (len from at : ℕ) : Type 0 where
  pub others : (c : ℕ) → 0 < c → c < len → from ≤ parent c → parent c ≢ at → IsOver scores heap (parent c) c
  pub across : (c : ℕ) → 0 < c → c < len → parent c ≡ at → 0 < at → from ≤ parent at → IsOver scores heap (parent at) c

-- the start of a way down
pub sinking_starts : (scores heap : List ℕ) (len start : ℕ) → IsOrdered scores heap len (start + 1) → IsSinking scores heap len start start
sinking_starts scores heap len start h = record {
  others = λ c some lc from n. h.below c some lc (omega arith);
  across = λ c some lc e up from. absurd (omega arith);
}

-- the better of the two places below a place
abbrev pub IsBetterChild : List ℕ → List ℕ → ℕ → ℕ → ℕ → Type 0
IsBetterChild scores heap len at child = (k : ℕ) → 2 * at + 1 ≤ k → k ≤ 2 * at + 1 + 1 → k < len → NoWorse scores (get_or heap child 0) (get_or heap k 0)

-- one place down
pub sinking_step : (scores old new : List ℕ) (len from at child : ℕ) → from ≤ at → 2 * at + 1 ≤ child → child ≤ 2 * at + 1 + 1 → child < len → AreSwapped old new at child
    → IsBetterChild scores old len at child → NoWorse scores (get_or old child 0) (get_or old at 0) → IsSinking scores old len from at → IsSinking scores new len from child
sinking_step scores old new len from at child start low high lt s best better h = record { others = others; across = across } where
  others : (c : ℕ) → 0 < c → c < len → from ≤ parent c → parent c ≢ child → NoWorse scores (get_or new (parent c) 0) (get_or new c 0)
  others c some lc fr np = ⊎_elim
      (λ (e : parent c ≡ at). ⊎_elim
      (λ (same : c ≡ child). no_worse_at scores _ _ _ _ (ap (λ k. get_or new k 0) e ∙ s.first) (ap (λ k. get_or new k 0) same ∙ s.second) better)
      (λ (nc : c ≢ child).
      let na : c ≢ at = omega arith in
      no_worse_at scores _ _ _ _ (ap (λ k. get_or new k 0) e ∙ s.first) (s.others c na nc) (best c (omega arith) (omega arith) lc))
      (cases_eq c child))
      (λ (n : parent c ≢ at). ⊎_elim
      (λ (e : c ≡ at).
      no_worse_at scores _ _ _ _ (s.others (parent c) n np ∙ ap (λ k. get_or old (parent k) 0) e) (ap (λ k. get_or new k 0) e ∙ s.first)
      (h.across child (omega arith) lt (omega arith) (omega arith) (omega arith)))
      (λ (na : c ≢ at).
      let nc : c ≢ child = omega arith in
      no_worse_at scores _ _ _ _ (s.others (parent c) n np) (s.others c na nc) (h.others c some lc fr n))
      (cases_eq c at))
      (cases_eq (parent c) at)

  across : (c : ℕ) → 0 < c → c < len → parent c ≡ child → 0 < child → from ≤ parent child → NoWorse scores (get_or new (parent child) 0) (get_or new c 0)
  across c some lc e more fr =
      let up : parent child ≡ at = omega arith in
      let na : c ≢ at = omega arith in
      let nc : c ≢ child = omega arith in
      no_worse_at scores _ _ _ _ (ap (λ k. get_or new k 0) up ∙ s.first) (s.others c na nc)
      (no_worse_at scores _ _ _ _ (ap (λ k. get_or old k 0) (sym e)) refl (h.others c some lc (omega arith) (omega arith)))

-- at the bottom
pub sinking_bottom : (scores heap : List ℕ) (len from at : ℕ) → len ≤ 2 * at + 1 → IsSinking scores heap len from at → IsOrdered scores heap len from
sinking_bottom scores heap len from at bottom h = record { below = λ c some lc fr. h.others c some lc fr (omega arith) }

-- above places that are no better
pub sinking_rests : (scores heap : List ℕ) (len from at child : ℕ) → IsBetterChild scores heap len at child → NoWorse scores (get_or heap at 0) (get_or heap child 0) → IsSinking scores heap len from at → IsOrdered scores heap len from
sinking_rests scores heap len from at child best worse h = record {
  below = λ c some lc fr. ⊎_elim
      (λ (e : parent c ≡ at).
      no_worse_at scores _ _ _ _ (ap (λ k. get_or heap k 0) e) refl (no_worse_through scores _ _ _ worse (best c (omega arith) (omega arith) lc)))
      (λ (n : parent c ≢ at). h.others c some lc fr n)
      (cases_eq (parent c) at);
}

-- places without one below them are in order
pub ordered_leaves : (scores heap : List ℕ) (len from : ℕ) → from ≡ len / 2 → IsOrdered scores heap len from
ordered_leaves scores heap len from e = record { below = λ c some lc fr. absurd (omega arith) }

-- the first place is no worse than any
pub first_is_best : (scores heap : List ℕ) (len : ℕ) → IsOrdered scores heap len 0 → (i : ℕ) → i < len → NoWorse scores (get_or heap 0 0) (get_or heap i 0)
first_is_best scores heap len h i lt = below (i + 1) i (omega arith) lt where
  below : (bound i : ℕ) → i < bound → i < len → NoWorse scores (get_or heap 0 0) (get_or heap i 0)
  below zero i b lt = absurd (omega arith)
  below (suc bound) i b lt = ⊎_elim
      (λ (e : i ≡ 0). rw e (no_worse_same scores (get_or heap 0 0)))
      (λ (n : i ≢ 0). no_worse_through scores _ _ _ (below bound (parent i) (omega arith) (omega arith)) (h.below i (omega arith) lt (omega arith)))
      (cases_eq i 0)
