-- The variables that a tally met.
use Rattle.std.proofs.Common.{◌≡◌, ◌≢◌, ℕ, zero, suc, ◌+◌, ◌<◌, ◌≤◌, Bool, true, false, ◌||◌, List, [], ◌∷◌, length, get_or, set, take, eqb, refl, sym, ap, ◌∙◌, arith, ⊎_elim, ◌⊎◌, inl, inr, get_or-set_same, get_or-set_other, length-set}
use Rattle.std.specs.List.{list_any, IsDistinct}
use Rattle.std.proofs.lemmas.Bool.{cases_eq, eqb-true, ne_eqb, false≢true}
use Rattle.std.proofs.lemmas.List.{get_or-take, length-take-le, get_or_default}
use Rattle.std.proofs.lemmas.Map.Keys.{IsDistinct-from_apart}
use Rattle.std.proofs.lemmas.Map.Steps.{length-le_from_distinct_below}
use Rattle.cube_split.specs.inner.Tallies.{AreMet, AreListed}

or_either : (a b : Bool) → (a || b) ≡ true → (a ≡ true) ⊎ (b ≡ true)
or_either true b e = inl refl
or_either false b e = inr e

-- a member of a list stands at a place
found_at : (q : ℕ) (xs : List ℕ) → list_any (eqb q) xs ≡ true → (k : ℕ) × (k < length xs) × (get_or xs k 0 ≡ q)
found_at q [] e = absurd (false≢true e)
found_at q (x ∷ xs) e = ⊎_elim
    (λ (here : eqb q x ≡ true). (0, omega arith, sym (eqb-true q x here)))
    (λ (later : list_any (eqb q) xs ≡ true). let at = found_at q xs later in (suc at.0, omega (arith, at.1), at.2))
    (or_either (eqb q x) (list_any (eqb q) xs) e)

-- 0 and the variables that were met
abbrev with_zero : List ℕ → ℕ → List ℕ
with_zero met len = 0 ∷ take len met

zero_size : (met : List ℕ) (len : ℕ) → len ≤ length met → length (with_zero met len) ≡ len + 1
zero_size met len h = omega (arith, length-take-le len met h)

zero_at : (met : List ℕ) (len k d : ℕ) → k < len → len ≤ length met → get_or (with_zero met len) (suc k) d ≡ get_or met k 0
zero_at met len k d h r = get_or-take len met k d h ∙ get_or_default met k d 0 (omega arith)

-- 0 and the variables that were met are apart, so that there is a row for one variable more
pub has_row : (counts last met : List ℕ) (len : ℕ) → AreMet counts last met len → len < length counts
has_row counts last met len h = omega (arith, zero_size met len h.few, length-le_from_distinct_below (with_zero met len) (length counts) distinct below) where
  apart : (i j d : ℕ) → i < j → j < length (with_zero met len) → eqb (get_or (with_zero met len) i d) (get_or (with_zero met len) j d) ≡ false
  apart zero zero d a b = absurd (omega arith)
  apart zero (suc j) d a b =
      let in_front : j < len = omega (arith, zero_size met len h.few) in
      ne_eqb 0 (get_or (with_zero met len) (suc j) d) (λ e. absurd (omega (arith, zero_at met len j d in_front h.few, (h.inside j in_front).0)))
  apart (suc i) zero d a b = absurd (omega arith)
  apart (suc i) (suc j) d a b =
      let in_front : j < len = omega (arith, zero_size met len h.few) in
      ne_eqb (get_or (with_zero met len) (suc i) d) (get_or (with_zero met len) (suc j) d)
      (λ e. h.distinct i j (omega arith) in_front (sym (zero_at met len i d (omega arith) h.few) ∙ e ∙ zero_at met len j d in_front h.few))

  distinct : IsDistinct eqb (with_zero met len)
  distinct = IsDistinct-from_apart eqb (with_zero met len) apart

  at_place : (q k : ℕ) → k < length (with_zero met len) → get_or (with_zero met len) k 0 ≡ q → q < length counts
  at_place q zero b e = omega (arith, h.some)
  at_place q (suc k) b e =
      let in_front : k < len = omega (arith, zero_size met len h.few) in
      omega (arith, zero_at met len k 0 in_front h.few, (h.inside k in_front).1)

  below : (q : ℕ) → list_any (eqb q) (with_zero met len) ≡ true → q < length counts
  below q e = let at = found_at q (with_zero met len) e in at_place q at.0 at.1 at.2

-- a variable is met: it is written after the others, and counts among them where it is new
pub met_one : (counts last met : List ℕ) (len v n c more : ℕ) → AreMet counts last met len → 0 < v → v < length counts → 0 < n → (get_or last v 0 ≡ 0 → more ≡ 1) → (get_or last v 0 ≢ 0 → more ≡ 0)
    → AreMet (set counts v c) (set last v n) (set met len v) (len + more)
met_one counts last met len v n c more h above below some new old = ⊎_elim
    (λ (z : get_or last v 0 ≡ 0). rw (new z) (first z))
    (λ (s : get_or last v 0 ≡ 0 → ⊥). rw (old s) (again s))
    (cases_eq (get_or last v 0) 0) where
      row : len < length counts
      row = has_row counts last met len h

      number_here : get_or (set last v n) v 0 ≡ n
      number_here = get_or-set_same last v n 0 (omega (arith, h.rows))

      kept : (k : ℕ) → k < len → get_or (set met len v) k 0 ≡ get_or met k 0
      kept k b = get_or-set_other met len k v 0 (λ e. absurd (omega arith))

      end : get_or (set met len v) len 0 ≡ v
      end = get_or-set_same met len v 0 (omega (arith, h.room, row))

      numbered : (w : ℕ) → 0 < get_or last w 0 → 0 < get_or (set last v n) w 0
      numbered w s = ⊎_elim
          (λ (e : w ≡ v). rw (e, number_here) some)
          (λ (ne : w ≡ v → ⊥). rw (get_or-set_other last v w n 0 ne) s)
          (cases_eq w v)

      none : (w : ℕ) → w < length (set counts v c) → get_or (set last v n) w 0 ≡ 0 → get_or (set counts v c) w 0 ≡ 0
      none w b z = ⊎_elim
          (λ (e : w ≡ v). absurd (omega (arith, number_here, ap (λ (k : ℕ). get_or (set last v n) k 0) e)))
          (λ (ne : w ≡ v → ⊥). get_or-set_other counts v w c 0 ne ∙ h.none w (omega (arith, length-set counts v c)) (sym (get_or-set_other last v w n 0 ne) ∙ z))
          (cases_eq w v)

      first : get_or last v 0 ≡ 0 → AreMet (set counts v c) (set last v n) (set met len v) (len + 1)
      first z = record {
        some = omega (arith, length-set counts v c);
        rows = omega (arith, length-set counts v c, length-set last v n, h.rows);
        room = omega (arith, length-set counts v c, length-set met len v, h.room);
        few = omega (arith, length-set met len v, h.room, row);
        inside = λ k b. ⊎_elim
            (λ (e : k ≡ len). rw (e, end) (above, omega (arith, length-set counts v c)))
            (λ (ne : k ≡ len → ⊥). rw (kept k (omega arith)) (let was = h.inside k (omega arith) in (was.0, omega (arith, was.1, length-set counts v c))))
            (cases_eq k len);
        distinct = λ j k a b. ⊎_elim
            (λ (e : k ≡ len).
            λ same. absurd (omega (arith, h.numbered j (omega arith), ap (λ (i : ℕ). get_or last i 0) (sym (kept j (omega arith)) ∙ same ∙ ap (λ (i : ℕ). get_or (set met len v) i 0) e ∙ end))))
            (λ (ne : k ≡ len → ⊥). rw (kept k (omega arith), kept j (omega arith)) (h.distinct j k a (omega arith)))
            (cases_eq k len);
        numbered = λ k b. ⊎_elim
            (λ (e : k ≡ len). rw (e, end, number_here) some)
            (λ (ne : k ≡ len → ⊥). rw (kept k (omega arith)) (numbered (get_or met k 0) (h.numbered k (omega arith))))
            (cases_eq k len);
        listed = λ w b s. ⊎_elim
            (λ (e : w ≡ v). (len, omega arith, end ∙ sym e))
            (λ (ne : w ≡ v → ⊥). let at = h.listed w (omega (arith, length-set counts v c)) (rw (get_or-set_other last v w n 0 ne) at s) in (at.0, omega (arith, at.1), kept at.0 at.1 ∙ at.2))
            (cases_eq w v);
        none = none;
      }

      again : (get_or last v 0 ≡ 0 → ⊥) → AreMet (set counts v c) (set last v n) (set met len v) (len + 0)
      again s = record {
        some = omega (arith, length-set counts v c);
        rows = omega (arith, length-set counts v c, length-set last v n, h.rows);
        room = omega (arith, length-set counts v c, length-set met len v, h.room);
        few = omega (arith, length-set met len v, h.few);
        inside = λ k b. rw (kept k (omega arith)) (let was = h.inside k (omega arith) in (was.0, omega (arith, was.1, length-set counts v c)));
        distinct = λ j k a b. rw (kept k (omega arith), kept j (omega arith)) (h.distinct j k a (omega arith));
        numbered = λ k b. rw (kept k (omega arith)) (numbered (get_or met k 0) (h.numbered k (omega arith)));
        listed = λ w b t. ⊎_elim
            (λ (e : w ≡ v). let at = h.listed v below (omega arith) in (at.0, omega (arith, at.1), kept at.0 at.1 ∙ at.2 ∙ sym e))
            (λ (ne : w ≡ v → ⊥). let at = h.listed w (omega (arith, length-set counts v c)) (rw (get_or-set_other last v w n 0 ne) at t) in (at.0, omega (arith, at.1), kept at.0 at.1 ∙ at.2))
            (cases_eq w v);
        none = none;
      }

-- the variables that were met are all that have a count
pub met_listed : (counts last met : List ℕ) (len : ℕ) → AreMet counts last met len → AreListed counts (take len met)
met_listed counts last met len h = record {
  inside = λ k b. let lower : k < len = omega (arith, size) in rw (get_or-take len met k 0 lower) (h.inside k lower);
  listed = λ w a b s.
      let at = h.listed w b (omega (arith, has_number w b s)) in
      (at.0, omega (arith, at.1, size), get_or-take len met at.0 0 at.1 ∙ at.2);
} where
  size : length (take len met) ≡ len
  size = length-take-le len met h.few

  has_number : (w : ℕ) → w < length counts → 0 < get_or counts w 0 → 0 < get_or last w 0
  has_number w b s = ⊎_elim
      (λ (z : get_or last w 0 ≡ 0). absurd (omega (arith, h.none w b z)))
      (λ (more : get_or last w 0 ≡ 0 → ⊥). omega arith)
      (cases_eq (get_or last w 0) 0)

-- nothing is met if no variable has a number
pub met_none : (counts last met : List ℕ) → 0 < length counts → length last ≡ length counts → length met ≡ length counts → ((w : ℕ) → w < length counts → get_or counts w 0 ≡ 0) → ((w : ℕ) → w < length counts → get_or last w 0 ≡ 0)
    → AreMet counts last met 0
met_none counts last met some rows room zero_counts zero_last = record {
  some = some;
  rows = rows;
  room = room;
  few = omega arith;
  inside = λ k b. absurd (omega arith);
  distinct = λ j k a b. absurd (omega arith);
  numbered = λ k b. absurd (omega arith);
  listed = λ w b s. absurd (omega (arith, zero_last w b));
  none = λ w b z. zero_counts w b;
}

-- the rows of the variables before i are clear, and no other was touched
pub record AreCleared (old_counts old_last counts last variables : List ℕ) (i : ℕ) : Type 0 where
  pub rows : length counts ≡ length old_counts
  pub size : length last ≡ length old_counts
  pub cleared : (k : ℕ) → k < i → (get_or counts (get_or variables k 0) 0 ≡ 0) × (get_or last (get_or variables k 0) 0 ≡ 0)
  pub others : (w : ℕ) → ((get_or counts w 0 ≡ get_or old_counts w 0) × (get_or last w 0 ≡ get_or old_last w 0)) ⊎ ((get_or counts w 0 ≡ 0) × (get_or last w 0 ≡ 0))

pub cleared_none : (counts last variables : List ℕ) → length last ≡ length counts → AreCleared counts last counts last variables 0
cleared_none counts last variables e = record { rows = refl; size = e; cleared = λ k b. absurd (omega arith); others = λ w. inl (refl, refl) }

pub cleared_one : (old_counts old_last counts last variables : List ℕ) (i v : ℕ) → v ≡ get_or variables i 0 → v < length old_counts → AreCleared old_counts old_last counts last variables i
    → AreCleared old_counts old_last (set counts v 0) (set last v 0) variables (i + 1)
cleared_one old_counts old_last counts last variables i v is below h = record {
  rows = length-set counts v 0 ∙ h.rows;
  size = length-set last v 0 ∙ h.size;
  cleared = λ k b. ⊎_elim
      (λ (e : k ≡ i). let here : get_or variables k 0 ≡ v = ap (λ (j : ℕ). get_or variables j 0) e ∙ sym is in rw here zeros)
      (λ (ne : k ≡ i → ⊥). let was = h.cleared k (omega arith) in stays (get_or variables k 0) was.0 was.1)
      (cases_eq k i);
  others = λ w. ⊎_elim
      (λ (e : w ≡ v). inr (rw e zeros))
      (λ (ne : w ≡ v → ⊥). rw (get_or-set_other counts v w 0 0 ne, get_or-set_other last v w 0 0 ne) (h.others w))
      (cases_eq w v);
} where
  zeros : (get_or (set counts v 0) v 0 ≡ 0) × (get_or (set last v 0) v 0 ≡ 0)
  zeros = (get_or-set_same counts v 0 0 (omega (arith, h.rows)), get_or-set_same last v 0 0 (omega (arith, h.size)))

  stays : (w : ℕ) → get_or counts w 0 ≡ 0 → get_or last w 0 ≡ 0 → (get_or (set counts v 0) w 0 ≡ 0) × (get_or (set last v 0) w 0 ≡ 0)
  stays w c l = ⊎_elim
      (λ (e : w ≡ v). rw e zeros)
      (λ (ne : w ≡ v → ⊥). (get_or-set_other counts v w 0 0 ne ∙ c, get_or-set_other last v w 0 0 ne ∙ l))
      (cases_eq w v)

-- after all that were met nothing is counted
pub all_cleared : (old_counts old_last counts last met : List ℕ) (len : ℕ) → AreMet old_counts old_last met len
    → ((k : ℕ) → k < length (take len met) → (get_or counts (get_or (take len met) k 0) 0 ≡ 0) × (get_or last (get_or (take len met) k 0) 0 ≡ 0))
    → ((w : ℕ) → ((get_or counts w 0 ≡ get_or old_counts w 0) × (get_or last w 0 ≡ get_or old_last w 0)) ⊎ ((get_or counts w 0 ≡ 0) × (get_or last w 0 ≡ 0)))
    → (w : ℕ) → w < length old_counts → (get_or counts w 0 ≡ 0) × (get_or last w 0 ≡ 0)
all_cleared old_counts old_last counts last met len h cleared others w b = ⊎_elim
    (λ (same : (get_or counts w 0 ≡ get_or old_counts w 0) × (get_or last w 0 ≡ get_or old_last w 0)). ⊎_elim
    (λ (z : get_or old_last w 0 ≡ 0). (same.0 ∙ h.none w b z, same.1 ∙ z))
    (λ (s : get_or old_last w 0 ≡ 0 → ⊥).
    let at = h.listed w b (omega arith) in
    let here : get_or (take len met) at.0 0 ≡ w = get_or-take len met at.0 0 at.1 ∙ at.2 in
    rw here at (cleared at.0 (omega (arith, at.1, length-take-le len met h.few))))
    (cases_eq (get_or old_last w 0) 0))
    (λ (zeros : (get_or counts w 0 ≡ 0) × (get_or last w 0 ≡ 0)). zeros)
    (others w)
