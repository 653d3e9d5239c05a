-- The greatest count so far.
use Rattle.std.proofs.Common.{◌≡◌, ℕ, ◌+◌, ◌-◌, ◌*◌, ◌<◌, ◌≤◌, Bool, true, false, not, ◌||◌, List, Option, Some, None, IfSome, IfNone, get_or, sym, ap, ◌∙◌, arith, ⊎_elim, inl, inr, length}
use Rattle.std.proofs.lemmas.Bool.{cases_eq, cases_lt, or_parts, or_from, both_ways, not-true as not_true}
use Rattle.cube_split.specs.inner.Marks.{IsUnmarked, IsGreatest, IsAhead, IsAheadOf}
use Rattle.cube_split.specs.inner.Tallies.{AreListed}

-- whether neither mark stands
pub unmarked_true : (marks : List Bool) (v : ℕ) (b : Bool) → b ≡ not (get_or marks (2 * v) false || get_or marks (2 * v + 1) false) → b ≡ true → IsUnmarked marks v
unmarked_true marks v b e t =
    let parts = or_parts (get_or marks (2 * v) false) (get_or marks (2 * v + 1) false) (not_true _ (sym e ∙ t)) in
    record { positive = parts.0; negative = parts.1 }

pub unmarked_false : (marks : List Bool) (v : ℕ) (b : Bool) → b ≡ not (get_or marks (2 * v) false || get_or marks (2 * v + 1) false) → b ≡ false → IsUnmarked marks v → ⊥
unmarked_false marks v b e f u =
    both_ways b f (e ∙ ap not (or_from (get_or marks (2 * v) false) (get_or marks (2 * v + 1) false) u.positive u.negative))

-- a variable that is not marked and has a count
pub record IsBest (marks : List Bool) (counts : List ℕ) (v : ℕ) : Type 0 where
  pub above : 0 < v
  pub below : v < length counts
  pub unmarked : IsUnmarked marks v
  pub some : 0 < get_or counts v 0

-- the best of the first k variables of a list: none of them is ahead of it
pub record IsBestOf (marks : List Bool) (counts variables : List ℕ) (k : ℕ) (best : Option ℕ) : Type 0 where
  pub is : IfSome best (IsBest marks counts)
  pub first : (j : ℕ) → j < k → IsUnmarked marks (get_or variables j 0) → IsAheadOf counts (get_or variables j 0) best → ⊥

pub best_none : (marks : List Bool) (counts variables : List ℕ) → IsBestOf marks counts variables 0 None
best_none marks counts variables = record { is = tt; first = λ j b. absurd (omega arith) }

pub best_below : (marks : List Bool) (counts : List ℕ) (best : Option ℕ) → IfSome best (IsBest marks counts) → IfSome best (λ b. b < length counts)
best_below marks counts None h = tt
best_below marks counts (Some v) h = h.below

-- who is ahead of one that is ahead, is ahead of the other
ahead_still : (counts : List ℕ) (v w : ℕ) (best : Option ℕ) → IsAhead counts v w → IsAheadOf counts w best → IsAheadOf counts v best
ahead_still counts v w None a b = ⊎_elim (λ (more : get_or counts w 0 < get_or counts v 0). omega arith) (λ (same : (get_or counts v 0 ≡ get_or counts w 0) × (v < w)). omega (arith, same.0)) a
ahead_still counts v w (Some u) a b = ⊎_elim
    (λ (more : get_or counts w 0 < get_or counts v 0). ⊎_elim
    (λ (more_again : get_or counts u 0 < get_or counts w 0). inl (omega arith))
    (λ (same : (get_or counts w 0 ≡ get_or counts u 0) × (w < u)). inl (omega (arith, same.0)))
    b)
    (λ (same : (get_or counts v 0 ≡ get_or counts w 0) × (v < w)). ⊎_elim
    (λ (more : get_or counts u 0 < get_or counts w 0). inl (omega (arith, same.0)))
    (λ (same_again : (get_or counts w 0 ≡ get_or counts u 0) × (w < u)). inr (omega (arith, same.0, same_again.0), omega (arith, same.1, same_again.1)))
    b)
    a

not_itself : (counts : List ℕ) (v : ℕ) → IsAhead counts v v → ⊥
not_itself counts v a = ⊎_elim (λ (more : get_or counts v 0 < get_or counts v 0). absurd (omega arith)) (λ (same : (get_or counts v 0 ≡ get_or counts v 0) × (v < v)). absurd (omega (arith, same.1))) a

-- who is ahead has a count, where the best so far has one
has_count : (marks : List Bool) (counts : List ℕ) (v : ℕ) (best : Option ℕ) → IfSome best (IsBest marks counts) → IsAheadOf counts v best → 0 < get_or counts v 0
has_count marks counts v None h a = a
has_count marks counts v (Some w) h a = ⊎_elim (λ (more : get_or counts w 0 < get_or counts v 0). omega arith) (λ (same : (get_or counts v 0 ≡ get_or counts w 0) × (v < w)). omega (arith, same.0, h.some)) a

-- the next variable is ahead
pub best_new : (marks : List Bool) (counts variables : List ℕ) (k v : ℕ) (best : Option ℕ) → AreListed counts variables → k < length variables → v ≡ get_or variables k 0 → IsUnmarked marks v → IsAheadOf counts v best
    → IsBestOf marks counts variables k best → IsBestOf marks counts variables (k + 1) (Some v)
best_new marks counts variables k v best l below is free ahead h = record {
  is = record { above = rw is ((l.inside k below).0); below = rw is ((l.inside k below).1); unmarked = free; some = has_count marks counts v best h.is ahead };
  first = λ j b u a. ⊎_elim
      (λ (same : j ≡ k). not_itself counts v (rw (ap (λ (i : ℕ). get_or variables i 0) same, ← is) at a))
      (λ (ne : j ≡ k → ⊥). h.first j (omega arith) u (ahead_still counts (get_or variables j 0) v best a ahead))
      (cases_eq j k);
}

-- it is not ahead, or marked
pub best_kept : (marks : List Bool) (counts variables : List ℕ) (k v : ℕ) (best : Option ℕ) → v ≡ get_or variables k 0 → (IsUnmarked marks v → IsAheadOf counts v best → ⊥)
    → IsBestOf marks counts variables k best → IsBestOf marks counts variables (k + 1) best
best_kept marks counts variables k v best is never h = record {
  is = h.is;
  first = λ j b u a. ⊎_elim
      (λ (same : j ≡ k). let here : get_or variables j 0 ≡ v = ap (λ (i : ℕ). get_or variables i 0) same ∙ sym is in never (rw here at u) (rw here at a))
      (λ (ne : j ≡ k → ⊥). h.first j (omega arith) u a)
      (cases_eq j k);
}

-- none is ahead of the best of all
none_ahead : (marks : List Bool) (counts variables : List ℕ) (k : ℕ) (best : Option ℕ) → AreListed counts variables → length variables ≤ k → IsBestOf marks counts variables k best
    → (w : ℕ) → 0 < w → w < length counts → 0 < get_or counts w 0 → IsUnmarked marks w → IsAheadOf counts w best → ⊥
none_ahead marks counts variables k best l all h w above below some u a =
    let at = l.listed w above below some in
    h.first at.0 (omega (arith, at.1)) (rw at.2 u) (rw at.2 a)

pub best_some : (marks : List Bool) (counts variables : List ℕ) (k : ℕ) (best : Option ℕ) → AreListed counts variables → length variables ≤ k → IsBestOf marks counts variables k best → IfSome best (IsGreatest marks counts (length counts - 1))
best_some marks counts variables k None l all h = tt
best_some marks counts variables k (Some v) l all h =
    let never = none_ahead marks counts variables k (Some v) l all h in
    record {
      above = h.is.above;
      below = omega (arith, h.is.below);
      unmarked = h.is.unmarked;
      some = h.is.some;
      most = λ w a b u. ⊎_elim
          (λ (more : get_or counts v 0 < get_or counts w 0). absurd (never w a (omega (arith, h.is.below)) (omega arith) u (inl more)))
          (λ (less : get_or counts w 0 ≤ get_or counts v 0). less)
          (cases_lt (get_or counts v 0) (get_or counts w 0));
      lowest = λ w a b u same. ⊎_elim
          (λ (lower : w < v). absurd (never w a (omega (arith, h.is.below)) (omega (arith, h.is.some)) u (inr (same, lower))))
          (λ (higher : v ≤ w). higher)
          (cases_lt w v);
    }

pub best_is_none : (marks : List Bool) (counts variables : List ℕ) (k : ℕ) (best : Option ℕ) → AreListed counts variables → length variables ≤ k → IsBestOf marks counts variables k best
    → IfNone best ((w : ℕ) → 0 < w → w < length counts → IsUnmarked marks w → get_or counts w 0 ≡ 0)
best_is_none marks counts variables k None l all h = λ w a b u. ⊎_elim
    (λ (zero : get_or counts w 0 ≡ 0). zero)
    (λ (some : get_or counts w 0 ≡ 0 → ⊥). absurd (none_ahead marks counts variables k None l all h w a b (omega arith) u (omega arith)))
    (cases_eq (get_or counts w 0) 0)
best_is_none marks counts variables k (Some v) l all h = tt
