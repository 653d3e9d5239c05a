-- The heap order after scores or members change.
use Rattle.std.proofs.Common.{◌≡◌, ◌≢◌, ℕ, ◌+◌, ◌-◌, ◌<◌, ◌≤◌, ◌^◌, List, length, get_or, set, refl, sym, ap, ◌∙◌, arith, ⊎_elim}
use Rattle.std.proofs.lemmas.Bool.{cases_eq, cases_lt, cond_below, cond_above}
use Rattle.std.proofs.lemmas.List.{get_or-set_same, get_or-set_other}
use Rattle.decide_heap.specs.Decisions.{saturating_successor}
use Rattle.decide_heap.specs.inner.Heap.{Tables, parent, ArePaired, AreSwapped, IsOrdered, IsRising, IsHeap}
use Rattle.decide_heap.proofs.OrderLemmas.{NoWorse, no_worse_at, no_worse_through}

-- a score does not fall
pub one_more_above : (n : ℕ) → n ≤ saturating_successor n
one_more_above n = ⊎_elim
    (λ (lt : n < 2 ^ 64 - 1). let e = cond_below n (2 ^ 64 - 1) (n + 1) n lt in omega (arith, e))
    (λ (le : 2 ^ 64 - 1 ≤ n). let e = cond_above n (2 ^ 64 - 1) (n + 1) n n le refl in omega (arith, e))
    (cases_lt n (2 ^ 64 - 1))

-- what is no worse stays so, where the score of one variable rises that is not the worse one
no_worse_raised : (scores : List ℕ) (var more v w : ℕ) → var < length scores → get_or scores var 0 ≤ more → w ≢ var → NoWorse scores v w → NoWorse (set scores var more) v w
no_worse_raised scores var more v w lt up n h =
    let x = h.greater in
    let same = get_or-set_other scores var w more 0 n in
    ⊎_elim
    (λ (e : v ≡ var).
    let is = get_or-set_same scores var more 0 lt in
    let was : get_or scores v 0 ≡ get_or scores var 0 = ap (λ k. get_or scores k 0) e in
    let now : get_or (set scores var more) v 0 ≡ more = ap (λ k. get_or (set scores var more) k 0) e ∙ is in
    record {
      greater = omega (arith, x, same, was, now);
      lower = λ tie. h.lower (omega (arith, x, same, was, now, tie));
    })
    (λ (m : v ≢ var).
    let now = get_or-set_other scores var v more 0 m in
    record {
      greater = omega (arith, x, same, now);
      lower = λ tie. h.lower (omega (arith, same, now, tie));
    })
    (cases_eq v var)

-- two places hold two variables
apart : (heap places : List ℕ) (i j : ℕ) → ArePaired heap places → i < length heap → j < length heap → i ≢ j → get_or heap i 0 ≢ get_or heap j 0
apart heap places i j p li lj n = λ e. n (sym (p.place i li) ∙ ap (λ v. get_or places v 0) e ∙ p.place j lj)

-- the raised variable may be better than those above it
pub raised_inside : (t : Tables) (var more : ℕ) → IsHeap t → var < length t.scores → get_or t.scores var 0 ≤ more → get_or t.places var 0 < t.len
    → IsRising (set t.scores var more) t.heap t.len (get_or t.places var 0)
raised_inside t var more h lt up inside =
    let at = get_or t.places var 0 in
    let r = h.rows in
    let p = r.paired in
    let is : get_or t.heap at 0 ≡ var = p.there var (omega (arith, r.size)) in
    let away : (k : ℕ) → k < t.len → k ≢ at → get_or t.heap k 0 ≢ var = λ k lk n e. apart t.heap t.places k at p (omega (arith, r.size, r.count)) (omega (arith, r.size, r.count)) n (e ∙ sym is) in
    record {
      others = λ c some lc n. no_worse_raised t.scores var more _ _ lt up (away c lc n) (h.ordered.below c some lc (omega arith));
      across = λ c some lc e top.
          let n : c ≢ at = omega arith in
          no_worse_raised t.scores var more _ _ lt up (away c lc n)
          (no_worse_through t.scores _ _ _ (h.ordered.below at top inside (omega arith)) (no_worse_at t.scores _ _ _ _ (ap (λ k. get_or t.heap k 0) (sym e)) refl (h.ordered.below c some lc (omega arith))));
    }

-- a variable that is out does not count
pub raised_outside : (t : Tables) (var more : ℕ) → IsHeap t → var < length t.scores → get_or t.scores var 0 ≤ more → t.len ≤ get_or t.places var 0
    → IsOrdered (set t.scores var more) t.heap t.len 0
raised_outside t var more h lt up out = record {
  below = λ c some lc from.
      no_worse_raised t.scores var more _ _ lt up
      (λ e. let is : get_or t.places var 0 ≡ c = ap (λ v. get_or t.places v 0) (sym e) ∙ h.rows.paired.place c (omega (arith, h.rows.size, h.rows.count)) in absurd (omega arith))
      (h.ordered.below c some lc from);
}

-- the new last of the first places may be better than those above it
pub entered : (t : Tables) (new : List ℕ) (at : ℕ) → IsHeap t → AreSwapped t.heap new at t.len → t.len ≤ at → IsRising t.scores new (t.len + 1) t.len
entered t new at h s out = record {
  others = λ c some lc n.
      no_worse_at t.scores _ _ _ _ (s.others (parent c) (omega arith) (omega arith)) (s.others c (omega arith) n) (h.ordered.below c some (omega arith) (omega arith));
  across = λ c some lc e top. absurd (omega arith);
}

-- the new first place may be worse than those below it
pub left_first : (t : Tables) (new : List ℕ) (last : ℕ) → IsHeap t → AreSwapped t.heap new 0 last → t.len ≡ last + 1 → IsOrdered t.scores new last (0 + 1)
left_first t new last h s e = record {
  below = λ c some lc from.
      no_worse_at t.scores _ _ _ _ (s.others (parent c) (omega arith) (omega arith)) (s.others c (omega arith) (omega arith)) (h.ordered.below c some (omega arith) (omega arith));
}
