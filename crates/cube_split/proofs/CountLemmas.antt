-- Counts of clauses.
use Rattle.std.proofs.Common.{◌≡◌, ◌≢◌, ℕ, ◌+◌, ◌*◌, ◌<◌, ◌≤◌, Bool, true, false, ◌||◌, ◌&&◌, not, cond, List, [], length, get_or, take, eqb, refl, sym, ap, ◌∙◌, arith, ⊎_elim, ◌⊎◌}
use Rattle.std.specs.List.{list_any, count_by}
use Rattle.std.proofs.lemmas.Bool.{cases_eq, cases_Bool, eq-eqb, ne_eqb, cond-true, cond-false, and_from, and_left, and_right}
use Rattle.std.proofs.lemmas.List.Folds.{list_any_more}
use Rattle.std.proofs.lemmas.List.Sums.{count_by_more_yes, count_by_more_no}
use Rattle.dimacs.specs.logic.Literal.{Literal, Pos, Neg, Clause, var_of, index_of, IsWithin}
use Rattle.cube_split.specs.Choice.{has_variable}
use Rattle.cube_split.specs.inner.Marks.{AreMarked}

-- the tables after a clause of this number, of which the literals so far are counted
pub record AreCounted (old_counts old_last counts last : List ℕ) (number : ℕ) (C : Clause) : Type 0 where
  pub long : length counts ≡ length old_counts
  pub size : length last ≡ length old_counts
  pub counted : (w : ℕ) → w < length old_counts → get_or counts w 0 ≡ get_or old_counts w 0 + cond (has_variable C w) 1 0
  pub marked : (w : ℕ) → w < length old_counts → get_or last w 0 ≡ cond (has_variable C w) number (get_or old_last w 0)

pub one_if_true : (b : Bool) → b ≡ true → cond {A = ℕ} b 1 0 ≡ 1
one_if_true b e = rw e refl

pub one_if_false : (b : Bool) → b ≡ false → cond {A = ℕ} b 1 0 ≡ 0
one_if_false b e = rw e refl

pub count_none : (counts last : List ℕ) (number : ℕ) → length last ≡ length counts → AreCounted counts last counts last number []
count_none counts last number e = record { long = refl; size = e; counted = λ w h. omega arith; marked = λ w h. refl }

or_kept : (a b : Bool) → b ≡ false → (a || b) ≡ a
or_kept true b e = refl
or_kept false b e = e

or_found : (a b : Bool) → b ≡ true → (a || b) ≡ true
or_found true b e = refl
or_found false b e = e

pub variable_at : (C : Clause) (i : ℕ) (l : Literal) (w : ℕ) → i < length C → l ≡ get_or C i l → var_of l ≡ w → has_variable (take (i + 1) C) w ≡ true
variable_at C i l w below is e =
    list_any_more (λ x. eqb (var_of x) w) C i l below ∙ or_found (has_variable (take i C) w) (eqb (var_of (get_or C i l)) w) (eq-eqb _ _ (ap var_of (sym is) ∙ e))

pub variable_other : (C : Clause) (i : ℕ) (l : Literal) (w : ℕ) → i < length C → l ≡ get_or C i l → (var_of l ≡ w → ⊥) → has_variable (take (i + 1) C) w ≡ has_variable (take i C) w
variable_other C i l w below is ne =
    list_any_more (λ x. eqb (var_of x) w) C i l below ∙ or_kept (has_variable (take i C) w) (eqb (var_of (get_or C i l)) w) (ne_eqb _ _ (λ e. ne (ap var_of is ∙ e)))

-- a variable that was not met in this clause stands not among its literals so far
new_variable : (oc ol counts last : List ℕ) (n : ℕ) (C : Clause) (v : ℕ) → AreCounted oc ol counts last n C → v < length oc → get_or last v 0 ≢ n → has_variable C v ≡ false
new_variable oc ol counts last n C v h below ne = ⊎_elim
    (λ (t : has_variable C v ≡ true). absurd (ne (h.marked v below ∙ cond-true (has_variable C v) n (get_or ol v 0) t)))
    (λ (f : has_variable C v ≡ false). f)
    (cases_Bool (has_variable C v))

old_variable : (oc ol counts last : List ℕ) (n : ℕ) (C : Clause) (v : ℕ) → AreCounted oc ol counts last n C → v < length oc → get_or ol v 0 < n → get_or last v 0 ≡ n → has_variable C v ≡ true
old_variable oc ol counts last n C v h below early e = ⊎_elim
    (λ (t : has_variable C v ≡ true). t)
    (λ (f : has_variable C v ≡ false). let stays : get_or last v 0 ≡ get_or ol v 0 = h.marked v below ∙ cond-false (has_variable C v) n (get_or ol v 0) f in absurd (omega arith))
    (cases_Bool (has_variable C v))

-- the count of a variable that was not met in this clause
pub count_fits : (oc ol counts last : List ℕ) (n : ℕ) (C : Clause) (v : ℕ) → AreCounted oc ol counts last n C → v < length oc → get_or oc v 0 < n → get_or last v 0 ≢ n → get_or counts v 0 < n
count_fits oc ol counts last n C v h below low ne =
    let none = one_if_false (has_variable C v) (new_variable oc ol counts last n C v h below ne) in
    omega (arith, h.counted v below)

-- the variable of one more literal is met
pub count_met : (oc ol counts last nc nl : List ℕ) (n : ℕ) (C : Clause) (i : ℕ) (l : Literal) (v : ℕ) → i < length C → l ≡ get_or C i l → v ≡ var_of l → v < length oc → get_or ol v 0 < n → length nc ≡ length counts → length nl ≡ length last
    → ((get_or last v 0 ≡ n) × (get_or nc v 0 ≡ get_or counts v 0)) ⊎ ((get_or last v 0 ≢ n) × (get_or nc v 0 ≡ get_or counts v 0 + 1)) → get_or nl v 0 ≡ n
    → ((w : ℕ) → w ≢ v → (get_or nc w 0 ≡ get_or counts w 0) × (get_or nl w 0 ≡ get_or last w 0))
    → AreCounted oc ol counts last n (take i C) → AreCounted oc ol nc nl n (take (i + 1) C)
count_met oc ol counts last nc nl n C i l v below is var inside early lc ll count number others h = record {
  long = lc ∙ h.long;
  size = ll ∙ h.size;
  counted = λ w wb. ⊎_elim
      (λ (e : w ≡ v). rw (e, one_if_true (has_variable (take (i + 1) C) v) here) (⊎_elim
      (λ (old : (get_or last v 0 ≡ n) × (get_or nc v 0 ≡ get_or counts v 0)).
      let one = one_if_true (has_variable (take i C) v) (old_variable oc ol counts last n (take i C) v h inside early old.0) in
      omega (arith, old.1, h.counted v inside))
      (λ (new : (get_or last v 0 ≢ n) × (get_or nc v 0 ≡ get_or counts v 0 + 1)).
      let none = one_if_false (has_variable (take i C) v) (new_variable oc ol counts last n (take i C) v h inside new.0) in
      omega (arith, new.1, h.counted v inside))
      count))
      (λ (ne : w ≡ v → ⊥). (others w ne).0 ∙ h.counted w wb ∙ ap (λ (b : Bool). get_or oc w 0 + cond b 1 0) (sym (other w ne)))
      (cases_eq w v);
  marked = λ w wb. ⊎_elim
      (λ (e : w ≡ v). rw e (number ∙ sym (cond-true (has_variable (take (i + 1) C) v) n (get_or ol v 0) here)))
      (λ (ne : w ≡ v → ⊥). (others w ne).1 ∙ h.marked w wb ∙ ap (λ (b : Bool). cond b n (get_or ol w 0)) (sym (other w ne)))
      (cases_eq w v);
} where
  here : has_variable (take (i + 1) C) v ≡ true
  here = variable_at C i l v below is (sym var)

  other : (w : ℕ) → (w ≡ v → ⊥) → has_variable (take (i + 1) C) w ≡ has_variable (take i C) w
  other w ne = variable_other C i l w below is (λ e. ne (sym e ∙ sym var))

-- after a whole clause
pub count_last : (oc ol counts last : List ℕ) (n : ℕ) (C : Clause) (w : ℕ) → AreCounted oc ol counts last n C → w < length oc → get_or ol w 0 < n → get_or last w 0 ≤ n
count_last oc ol counts last n C w h below early = ⊎_elim
    (λ (t : has_variable C w ≡ true). let e : get_or last w 0 ≡ n = h.marked w below ∙ cond-true (has_variable C w) n (get_or ol w 0) t in omega arith)
    (λ (f : has_variable C w ≡ false). let e : get_or last w 0 ≡ get_or ol w 0 = h.marked w below ∙ cond-false (has_variable C w) n (get_or ol w 0) f in omega arith)
    (cases_Bool (has_variable C w))

-- the tables after the first i clauses
pub record AreAllCounted (marks : List Bool) (counts last : List ℕ) (size i : ℕ) (clauses : List Clause) : Type 0 where
  pub long : length counts ≡ size
  pub also : length last ≡ size
  pub bound : (w : ℕ) → w < size → get_or counts w 0 ≤ i
  pub early : (w : ℕ) → w < size → get_or last w 0 ≤ i
  pub counted : (test : Literal → Bool) → AreMarked marks test → (w : ℕ) → w < size → get_or counts w 0 ≡ count_by (λ C. not (list_any test C) && has_variable C w) (take i clauses)

pub all_none : (marks : List Bool) (counts last : List ℕ) (clauses : List Clause) → length last ≡ length counts → ((w : ℕ) → w < length counts → get_or counts w 0 ≡ 0) → ((w : ℕ) → w < length counts → get_or last w 0 ≡ 0)
    → AreAllCounted marks counts last (length counts) 0 clauses
all_none marks counts last clauses e zero_counts zero_last = record {
  long = refl;
  also = e;
  bound = λ w h. omega (arith, zero_counts w h);
  early = λ w h. omega (arith, zero_last w h);
  counted = λ test m w h. zero_counts w h;
}

-- a clause without a marked literal
pub all_counted : (marks : List Bool) (counts last new_counts new_last : List ℕ) (size i : ℕ) (clauses : List Clause) (C : Clause) → i < length clauses → C ≡ get_or clauses i []
    → ((test : Literal → Bool) → AreMarked marks test → true ≡ not (list_any test C)) → length new_counts ≡ length counts → length new_last ≡ length last
    → ((w : ℕ) → w < length counts → get_or new_counts w 0 ≡ get_or counts w 0 + cond (has_variable C w) 1 0) → ((w : ℕ) → w < length counts → get_or new_last w 0 ≤ i + 1)
    → AreAllCounted marks counts last size i clauses → AreAllCounted marks new_counts new_last size (i + 1) clauses
all_counted marks counts last nc nl size i clauses C below is apart lc ll more early h = record {
  long = lc ∙ h.long;
  also = ll ∙ h.also;
  bound = λ w wb. omega (arith, more w (omega (arith, h.long)), h.bound w wb, one_if_small (has_variable C w));
  early = λ w wb. early w (omega (arith, h.long));
  counted = λ test m w wb. ⊎_elim
      (λ (t : has_variable C w ≡ true).
      let passes : (not (list_any test (get_or clauses i [])) && has_variable (get_or clauses i []) w) ≡ true = rw (← is) (and_from (not (list_any test C)) (has_variable C w) (sym (apart test m)) t) in
      let step = count_by_more_yes (λ D. not (list_any test D) && has_variable D w) clauses i [] below passes in
      let one = one_if_true (has_variable C w) t in
      omega (arith, more w (omega (arith, h.long)), h.counted test m w wb))
      (λ (f : has_variable C w ≡ false).
      let fails : (not (list_any test (get_or clauses i [])) && has_variable (get_or clauses i []) w) ≡ false = rw (← is) (and_right (not (list_any test C)) (has_variable C w) f) in
      let step = count_by_more_no (λ D. not (list_any test D) && has_variable D w) clauses i [] below fails in
      let none = one_if_false (has_variable C w) f in
      omega (arith, more w (omega (arith, h.long)), h.counted test m w wb))
      (cases_Bool (has_variable C w));
} where
  one_if_small : (b : Bool) → cond {A = ℕ} b 1 0 ≤ 1
  one_if_small true = omega arith
  one_if_small false = omega arith

-- a clause with a marked literal
pub all_passed : (marks : List Bool) (counts last : List ℕ) (size i : ℕ) (clauses : List Clause) (C : Clause) → i < length clauses → C ≡ get_or clauses i []
    → ((test : Literal → Bool) → AreMarked marks test → false ≡ not (list_any test C))
    → AreAllCounted marks counts last size i clauses → AreAllCounted marks counts last size (i + 1) clauses
all_passed marks counts last size i clauses C below is apart h = record {
  long = h.long;
  also = h.also;
  bound = λ w wb. omega (arith, h.bound w wb);
  early = λ w wb. omega (arith, h.early w wb);
  counted = λ test m w wb.
      let fails : (not (list_any test (get_or clauses i [])) && has_variable (get_or clauses i []) w) ≡ false = rw (← is) (and_left (not (list_any test C)) (has_variable C w) (sym (apart test m))) in
      h.counted test m w wb ∙ sym (count_by_more_no (λ D. not (list_any test D) && has_variable D w) clauses i [] below fails);
}

-- where the literal of a variable stands
pub index_below : (l : Literal) (vars n m : ℕ) → IsWithin vars l → vars < n → m ≡ 2 * n → index_of l < m
index_below (Pos v) vars n m h a e = omega (arith, h.1)
index_below (Neg v) vars n m h a e = omega (arith, h.1)
