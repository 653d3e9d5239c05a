-- Clauses that are closed and opened again, and the counts of their variables.
use Rattle.std.proofs.Common.{◌≡◌, ℕ, zero, suc, ◌+◌, ◌-◌, ◌<◌, ◌≤◌, Bool, true, false, not, ◌&&◌, cond, List, [], length, get_or, set, map, take, eqb, All, refl, sym, ap, subst, ◌∙◌, arith, ⊎_elim, get_or-set_same, get_or-set_other, length-set}
use Rattle.std.proofs.lemmas.Bool.{cases_eq, eq-eqb, ne_eqb, not-true as not_true, not-false as not_false, both_ways}
use Rattle.std.proofs.lemmas.List.{get_or-map, get_or_default, length-map, take_all}
use Rattle.std.proofs.lemmas.List.Elements.{All-get_or}
use Rattle.std.proofs.lemmas.List.Folds.{list_any_at}
use Rattle.dimacs.specs.logic.Literal.{Literal, Clause, var_of}
use Rattle.cube_split.specs.Choice.{has_variable}
use Rattle.cube_split.specs.inner.OpenClauses.{AreFlagged, open_count}
use Rattle.cube_split.specs.inner.Places.{nowhere, place_at}
use Rattle.cube_split.specs.declared.places.Place.{Place}
use Rattle.cube_split.proofs.CountLemmas.{variable_at, variable_other, one_if_true, one_if_false}

-- ---- one clause

-- the counts without, and with, the variables of a front of a clause
pub record AreOut (old counts : List ℕ) (D : Clause) : Type 0 where
  pub size : length counts ≡ length old
  pub counted : (w : ℕ) → w < length old → get_or counts w 0 + cond (has_variable D w) 1 0 ≡ get_or old w 0

pub record AreIn (old counts : List ℕ) (D : Clause) : Type 0 where
  pub size : length counts ≡ length old
  pub counted : (w : ℕ) → w < length old → get_or counts w 0 ≡ get_or old w 0 + cond (has_variable D w) 1 0

pub out_none : (counts : List ℕ) → AreOut counts counts []
out_none counts = record { size = refl; counted = λ w h. omega arith }

pub in_none : (counts : List ℕ) → AreIn counts counts []
in_none counts = record { size = refl; counted = λ w h. omega arith }

pub literal_here : (ps : List Place) (k : ℕ) (e : Place) → k < length ps → e ≡ get_or ps k e → e.literal ≡ get_or (map (λ (x : Place). x.literal) ps) k e.literal
literal_here ps k e below is = ap (λ (x : Place). x.literal) is ∙ sym (get_or-map (λ (x : Place). x.literal) ps k e e.literal below)

pub flag_here : (ps : List Place) (k : ℕ) (e : Place) → k < length ps → e ≡ get_or ps k e → AreFlagged (map (λ (x : Place). x.literal) ps) ps
    → e.first ≡ not (has_variable (take k (map (λ (x : Place). x.literal) ps)) (var_of e.literal))
flag_here ps k e below is flagged =
    let here : place_at ps k ≡ e = get_or_default ps k nowhere e below ∙ sym is in
    subst (λ (x : Place). x.first ≡ not (has_variable (take k (map (λ (y : Place). y.literal) ps)) (var_of x.literal))) here (flagged k below)

-- a variable that stands before its place again
same_variables : (C : Clause) (k : ℕ) (l : Literal) → k < length C → l ≡ get_or C k l → has_variable (take k C) (var_of l) ≡ true → (w : ℕ) → has_variable (take k C) w ≡ has_variable (take (k + 1) C) w
same_variables C k l below is met w = ⊎_elim
    (λ (e : w ≡ var_of l). ap (has_variable (take k C)) e ∙ met ∙ sym (variable_at C k l w below is (sym e)))
    (λ (ne : w ≡ var_of l → ⊥). sym (variable_other C k l w below is (λ e. ne (sym e))))
    (cases_eq w (var_of l))

pub out_same : (old counts : List ℕ) (C : Clause) (k : ℕ) (l : Literal) → k < length C → l ≡ get_or C k l → has_variable (take k C) (var_of l) ≡ true → AreOut old counts (take k C) → AreOut old counts (take (k + 1) C)
out_same old counts C k l below is met h = record {
  size = h.size;
  counted = λ w b. subst (λ (t : Bool). get_or counts w 0 + cond t 1 0 ≡ get_or old w 0) (same_variables C k l below is met w) (h.counted w b);
}

pub in_same : (old counts : List ℕ) (C : Clause) (k : ℕ) (l : Literal) → k < length C → l ≡ get_or C k l → has_variable (take k C) (var_of l) ≡ true → AreIn old counts (take k C) → AreIn old counts (take (k + 1) C)
in_same old counts C k l below is met h = record {
  size = h.size;
  counted = λ w b. subst (λ (t : Bool). get_or counts w 0 ≡ get_or old w 0 + cond t 1 0) (same_variables C k l below is met w) (h.counted w b);
}

pub variable_of : (C : Clause) (k : ℕ) (l : Literal) → k < length C → l ≡ get_or C k l → has_variable C (var_of l) ≡ true
variable_of C k l below is = list_any_at (λ x. eqb (var_of x) (var_of l)) C k l below (eq-eqb _ _ (ap var_of (sym is)))

-- there is one to take out
pub out_fits : (old counts : List ℕ) (C : Clause) (k v : ℕ) (l : Literal) → k < length C → l ≡ get_or C k l → v ≡ var_of l → v < length old → cond (has_variable C v) 1 0 ≤ get_or old v 0
    → has_variable (take k C) (var_of l) ≡ false → AreOut old counts (take k C) → 1 ≤ get_or counts v 0
out_fits old counts C k v l below is var inside some fresh h =
    let holds = one_if_true (has_variable C v) (ap (has_variable C) var ∙ variable_of C k l below is) in
    let none = one_if_false (has_variable (take k C) v) (ap (has_variable (take k C)) var ∙ fresh) in
    omega (arith, h.counted v inside)

pub out_more : (old counts : List ℕ) (C : Clause) (k v : ℕ) (l : Literal) → k < length C → l ≡ get_or C k l → v ≡ var_of l → v < length old → cond (has_variable C v) 1 0 ≤ get_or old v 0
    → has_variable (take k C) (var_of l) ≡ false → AreOut old counts (take k C) → AreOut old (set counts v (get_or counts v 0 - 1)) (take (k + 1) C)
out_more old counts C k v l below is var inside some fresh h = record {
  size = length-set counts v (get_or counts v 0 - 1) ∙ h.size;
  counted = λ w b. ⊎_elim
      (λ (e : w ≡ v).
      let here : get_or (set counts v (get_or counts v 0 - 1)) w 0 ≡ get_or counts v 0 - 1 = ap (λ (j : ℕ). get_or (set counts v (get_or counts v 0 - 1)) j 0) e ∙ get_or-set_same counts v (get_or counts v 0 - 1) 0 (omega (arith, h.size)) in
      let one = one_if_true (has_variable (take (k + 1) C) w) (variable_at C k l w below is (sym var ∙ sym e)) in
      let none = one_if_false (has_variable (take k C) v) (ap (has_variable (take k C)) var ∙ fresh) in
      let there : get_or old w 0 ≡ get_or old v 0 = ap (λ (j : ℕ). get_or old j 0) e in
      omega (arith, h.counted v inside, out_fits old counts C k v l below is var inside some fresh h))
      (λ (ne : w ≡ v → ⊥).
      let stays = get_or-set_other counts v w (get_or counts v 0 - 1) 0 ne in
      let other : cond (has_variable (take (k + 1) C) w) 1 0 ≡ cond (has_variable (take k C) w) 1 0 = ap (λ (t : Bool). cond {A = ℕ} t 1 0) (variable_other C k l w below is (λ e. ne (sym e ∙ sym var))) in
      omega (arith, h.counted w b))
      (cases_eq w v);
}

pub in_more : (old counts : List ℕ) (C : Clause) (k v : ℕ) (l : Literal) → k < length C → l ≡ get_or C k l → v ≡ var_of l → v < length old
    → has_variable (take k C) (var_of l) ≡ false → AreIn old counts (take k C) → AreIn old (set counts v (get_or counts v 0 + 1)) (take (k + 1) C)
in_more old counts C k v l below is var inside fresh h = record {
  size = length-set counts v (get_or counts v 0 + 1) ∙ h.size;
  counted = λ w b. ⊎_elim
      (λ (e : w ≡ v).
      let here : get_or (set counts v (get_or counts v 0 + 1)) w 0 ≡ get_or counts v 0 + 1 = ap (λ (j : ℕ). get_or (set counts v (get_or counts v 0 + 1)) j 0) e ∙ get_or-set_same counts v (get_or counts v 0 + 1) 0 (omega (arith, h.size)) in
      let one = one_if_true (has_variable (take (k + 1) C) w) (variable_at C k l w below is (sym var ∙ sym e)) in
      let none = one_if_false (has_variable (take k C) v) (ap (has_variable (take k C)) var ∙ fresh) in
      let there : get_or old w 0 ≡ get_or old v 0 = ap (λ (j : ℕ). get_or old j 0) e in
      omega (arith, h.counted v inside))
      (λ (ne : w ≡ v → ⊥).
      let stays = get_or-set_other counts v w (get_or counts v 0 + 1) 0 ne in
      let other : cond (has_variable (take (k + 1) C) w) 1 0 ≡ cond (has_variable (take k C) w) 1 0 = ap (λ (t : Bool). cond {A = ℕ} t 1 0) (variable_other C k l w below is (λ e. ne (sym e ∙ sym var))) in
      omega (arith, h.counted w b))
      (cases_eq w v);
}

-- ---- the same, place by place

abbrev literals : List Place → Clause
literals ps = map (λ (e : Place). e.literal) ps

in_literals : (ps : List Place) (k : ℕ) → k < length ps → k < length (literals ps)
in_literals ps k below = omega (arith, length-map ps (λ (e : Place). e.literal))

variable_inside : (ps : List Place) (k n : ℕ) (e : Place) → k < length ps → e ≡ get_or ps k e → All (λ (x : Place). var_of x.literal < n) ps → var_of e.literal < n
variable_inside ps k n e below is within = subst (λ (x : Place). var_of x.literal < n) (sym is) (All-get_or (λ (x : Place). var_of x.literal < n) ps k e below within)

fresh_here : (ps : List Place) (k : ℕ) (e : Place) → k < length ps → e ≡ get_or ps k e → AreFlagged (literals ps) ps → e.first ≡ true → has_variable (take k (literals ps)) (var_of e.literal) ≡ false
fresh_here ps k e below is flagged first = not_true _ (sym (flag_here ps k e below is flagged) ∙ first)

met_here : (ps : List Place) (k : ℕ) (e : Place) → k < length ps → e ≡ get_or ps k e → AreFlagged (literals ps) ps → e.first ≡ false → has_variable (take k (literals ps)) (var_of e.literal) ≡ true
met_here ps k e below is flagged again = not_false _ (sym (flag_here ps k e below is flagged) ∙ again)

pub place_fits : (old counts : List ℕ) (ps : List Place) (k v : ℕ) (e : Place) → k < length ps → e ≡ get_or ps k e → v ≡ var_of e.literal → All (λ (x : Place). var_of x.literal < length old) ps → AreFlagged (literals ps) ps
    → ((w : ℕ) → w < length old → cond (has_variable (literals ps) w) 1 0 ≤ get_or old w 0) → e.first ≡ true → AreOut old counts (take k (literals ps)) → 1 ≤ get_or counts v 0
place_fits old counts ps k v e below is var within flagged some first h =
    let inside : v < length old = omega (arith, variable_inside ps k (length old) e below is within) in
    out_fits old counts (literals ps) k v e.literal (in_literals ps k below) (literal_here ps k e below is) var inside (some v inside) (fresh_here ps k e below is flagged first) h

pub place_out : (old counts : List ℕ) (ps : List Place) (k v : ℕ) (e : Place) → k < length ps → e ≡ get_or ps k e → v ≡ var_of e.literal → All (λ (x : Place). var_of x.literal < length old) ps → AreFlagged (literals ps) ps
    → ((w : ℕ) → w < length old → cond (has_variable (literals ps) w) 1 0 ≤ get_or old w 0) → e.first ≡ true → AreOut old counts (take k (literals ps)) → AreOut old (set counts v (get_or counts v 0 - 1)) (take (k + 1) (literals ps))
place_out old counts ps k v e below is var within flagged some first h =
    let inside : v < length old = omega (arith, variable_inside ps k (length old) e below is within) in
    out_more old counts (literals ps) k v e.literal (in_literals ps k below) (literal_here ps k e below is) var inside (some v inside) (fresh_here ps k e below is flagged first) h

pub place_still_out : (old counts : List ℕ) (ps : List Place) (k : ℕ) (e : Place) → k < length ps → e ≡ get_or ps k e → AreFlagged (literals ps) ps → e.first ≡ false
    → AreOut old counts (take k (literals ps)) → AreOut old counts (take (k + 1) (literals ps))
place_still_out old counts ps k e below is flagged again h =
    out_same old counts (literals ps) k e.literal (in_literals ps k below) (literal_here ps k e below is) (met_here ps k e below is flagged again) h

pub place_in : (old counts : List ℕ) (ps : List Place) (k v : ℕ) (e : Place) → k < length ps → e ≡ get_or ps k e → v ≡ var_of e.literal → All (λ (x : Place). var_of x.literal < length old) ps → AreFlagged (literals ps) ps
    → e.first ≡ true → AreIn old counts (take k (literals ps)) → AreIn old (set counts v (get_or counts v 0 + 1)) (take (k + 1) (literals ps))
place_in old counts ps k v e below is var within flagged first h =
    let inside : v < length old = omega (arith, variable_inside ps k (length old) e below is within) in
    in_more old counts (literals ps) k v e.literal (in_literals ps k below) (literal_here ps k e below is) var inside (fresh_here ps k e below is flagged first) h

pub place_still_in : (old counts : List ℕ) (ps : List Place) (k : ℕ) (e : Place) → k < length ps → e ≡ get_or ps k e → AreFlagged (literals ps) ps → e.first ≡ false
    → AreIn old counts (take k (literals ps)) → AreIn old counts (take (k + 1) (literals ps))
place_still_in old counts ps k e below is flagged again h =
    in_same old counts (literals ps) k e.literal (in_literals ps k below) (literal_here ps k e below is) (met_here ps k e below is flagged again) h

pub all_out : (old counts : List ℕ) (ps : List Place) (k : ℕ) → length ps ≤ k → AreOut old counts (take k (literals ps)) → AreOut old counts (literals ps)
all_out old counts ps k past h = subst (AreOut old counts) (take_all k (literals ps) (omega (arith, length-map ps (λ (e : Place). e.literal)))) h

pub all_in : (old counts : List ℕ) (ps : List Place) (k : ℕ) → length ps ≤ k → AreIn old counts (take k (literals ps)) → AreIn old counts (literals ps)
all_in old counts ps k past h = subst (AreIn old counts) (take_all k (literals ps) (omega (arith, length-map ps (λ (e : Place). e.literal)))) h

-- ---- counts of open clauses

pub open_few : (n : ℕ) (C : ℕ → Clause) (closed : List ℕ) (w : ℕ) → open_count n C closed w ≤ n
open_few zero C closed w = omega arith
open_few (suc n) C closed w = omega (arith, open_few n C closed w, small (eqb (get_or closed n 0) 0 && has_variable (C n) w)) where
  small : (b : Bool) → cond {A = ℕ} b 1 0 ≤ 1
  small true = omega arith
  small false = omega arith

-- a change at i above the first n clauses does not show
open_above : (n : ℕ) (C : ℕ → Clause) (closed : List ℕ) (w i x : ℕ) → n ≤ i → open_count n C (set closed i x) w ≡ open_count n C closed w
open_above zero C closed w i x above = refl
open_above (suc n) C closed w i x above =
    let stays : get_or (set closed i x) n 0 ≡ get_or closed n 0 = get_or-set_other closed i n x 0 (λ e. absurd (omega arith)) in
    rw stays (ap (λ (m : ℕ). m + cond (eqb (get_or closed n 0) 0 && has_variable (C n) w) 1 0) (open_above n C closed w i x (omega arith)))

open_here : (b c : Bool) → b ≡ true → cond {A = ℕ} (b && c) 1 0 ≡ cond c 1 0
open_here true c e = refl
open_here false c e = absurd (both_ways false refl e)

closed_here : (b c : Bool) → b ≡ false → cond {A = ℕ} (b && c) 1 0 ≡ 0
closed_here true c e = absurd (both_ways true e refl)
closed_here false c e = refl

-- a clause that was open is closed
pub open_less : (n : ℕ) (C : ℕ → Clause) (closed : List ℕ) (w i x : ℕ) → i < n → i < length closed → get_or closed i 0 ≡ 0 → 0 < x → open_count n C (set closed i x) w + cond (has_variable (C i) w) 1 0 ≡ open_count n C closed w
open_less zero C closed w i x below inside is above = absurd (omega arith)
open_less (suc n) C closed w i x below inside is above = ⊎_elim
    (λ (e : i ≡ n).
    let now : eqb (get_or (set closed i x) n 0) 0 ≡ false = ne_eqb _ _ (λ z. absurd (omega (arith, ap (λ (k : ℕ). get_or (set closed i x) k 0) (sym e) ∙ get_or-set_same closed i x 0 inside))) in
    let was : eqb (get_or closed n 0) 0 ≡ true = eq-eqb _ _ (ap (λ (k : ℕ). get_or closed k 0) (sym e) ∙ is) in
    let same : has_variable (C i) w ≡ has_variable (C n) w = ap (λ (k : ℕ). has_variable (C k) w) e in
    let none = closed_here (eqb (get_or (set closed i x) n 0) 0) (has_variable (C n) w) now in
    let one = open_here (eqb (get_or closed n 0) 0) (has_variable (C n) w) was in
    let equal : cond {A = ℕ} (has_variable (C i) w) 1 0 ≡ cond (has_variable (C n) w) 1 0 = ap (λ (t : Bool). cond {A = ℕ} t 1 0) same in
    omega (arith, open_above n C closed w i x (omega arith)))
    (λ (ne : i ≡ n → ⊥).
    let stays : get_or (set closed i x) n 0 ≡ get_or closed n 0 = get_or-set_other closed i n x 0 (λ e. ne (sym e)) in
    let last : cond {A = ℕ} (eqb (get_or (set closed i x) n 0) 0 && has_variable (C n) w) 1 0 ≡ cond (eqb (get_or closed n 0) 0 && has_variable (C n) w) 1 0 = ap (λ (k : ℕ). cond {A = ℕ} (eqb k 0 && has_variable (C n) w) 1 0) stays in
    omega (arith, open_less n C closed w i x (omega arith) inside is above))
    (cases_eq i n)

-- a clause that was closed is open
pub open_more : (n : ℕ) (C : ℕ → Clause) (closed : List ℕ) (w i : ℕ) → i < n → i < length closed → 0 < get_or closed i 0 → open_count n C (set closed i 0) w ≡ open_count n C closed w + cond (has_variable (C i) w) 1 0
open_more zero C closed w i below inside above = absurd (omega arith)
open_more (suc n) C closed w i below inside above = ⊎_elim
    (λ (e : i ≡ n).
    let now : eqb (get_or (set closed i 0) n 0) 0 ≡ true = eq-eqb _ _ (ap (λ (k : ℕ). get_or (set closed i 0) k 0) (sym e) ∙ get_or-set_same closed i 0 0 inside) in
    let was : eqb (get_or closed n 0) 0 ≡ false = ne_eqb _ _ (λ z. absurd (omega (arith, ap (λ (k : ℕ). get_or closed k 0) e))) in
    let same : has_variable (C i) w ≡ has_variable (C n) w = ap (λ (k : ℕ). has_variable (C k) w) e in
    let one = open_here (eqb (get_or (set closed i 0) n 0) 0) (has_variable (C n) w) now in
    let none = closed_here (eqb (get_or closed n 0) 0) (has_variable (C n) w) was in
    let equal : cond {A = ℕ} (has_variable (C i) w) 1 0 ≡ cond (has_variable (C n) w) 1 0 = ap (λ (t : Bool). cond {A = ℕ} t 1 0) same in
    omega (arith, open_above n C closed w i 0 (omega arith)))
    (λ (ne : i ≡ n → ⊥).
    let stays : get_or (set closed i 0) n 0 ≡ get_or closed n 0 = get_or-set_other closed i n 0 0 (λ e. ne (sym e)) in
    let last : cond {A = ℕ} (eqb (get_or (set closed i 0) n 0) 0 && has_variable (C n) w) 1 0 ≡ cond (eqb (get_or closed n 0) 0 && has_variable (C n) w) 1 0 = ap (λ (k : ℕ). cond {A = ℕ} (eqb k 0 && has_variable (C n) w) 1 0) stays in
    omega (arith, open_more n C closed w i (omega arith) inside above))
    (cases_eq i n)

-- what a closed clause takes out of the counts
pub close_some : (n : ℕ) (C : ℕ → Clause) (closed counts : List ℕ) (D : Clause) (i w : ℕ) → D ≡ C i → i < n → i < length closed → get_or closed i 0 ≡ 0 → get_or counts w 0 ≡ open_count n C closed w → cond (has_variable D w) 1 0 ≤ get_or counts w 0
close_some n C closed counts D i w is below inside stood counted =
    let same : cond (has_variable D w) 1 0 ≡ cond {A = ℕ} (has_variable (C i) w) 1 0 = ap (λ (E : Clause). cond {A = ℕ} (has_variable E w) 1 0) is in
    omega (arith, open_less n C closed w i 1 below inside stood (omega arith))

pub close_counted : (n : ℕ) (C : ℕ → Clause) (closed counts new : List ℕ) (D : Clause) (i x w : ℕ) → D ≡ C i → i < n → i < length closed → get_or closed i 0 ≡ 0 → 0 < x → get_or counts w 0 ≡ open_count n C closed w
    → get_or new w 0 + cond (has_variable D w) 1 0 ≡ get_or counts w 0 → get_or new w 0 ≡ open_count n C (set closed i x) w
close_counted n C closed counts new D i x w is below inside stood above counted out =
    let same : cond (has_variable D w) 1 0 ≡ cond {A = ℕ} (has_variable (C i) w) 1 0 = ap (λ (E : Clause). cond {A = ℕ} (has_variable E w) 1 0) is in
    omega (arith, open_less n C closed w i x below inside stood above)

-- what an opened clause brings into the counts
pub open_counted : (n : ℕ) (C : ℕ → Clause) (closed counts new : List ℕ) (D : Clause) (i w : ℕ) → D ≡ C i → i < n → i < length closed → 0 < get_or closed i 0 → get_or counts w 0 ≡ open_count n C closed w
    → get_or new w 0 ≡ get_or counts w 0 + cond (has_variable D w) 1 0 → get_or new w 0 ≡ open_count n C (set closed i 0) w
open_counted n C closed counts new D i w is below inside above counted out =
    let same : cond (has_variable D w) 1 0 ≡ cond {A = ℕ} (has_variable (C i) w) 1 0 = ap (λ (E : Clause). cond {A = ℕ} (has_variable E w) 1 0) is in
    omega (arith, open_more n C closed w i below inside above)
