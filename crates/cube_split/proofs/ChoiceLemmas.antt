-- The split rule, by tables of counts and marks.
use Rattle.std.proofs.Common.{◌≡◌, ◌≢◌, ℕ, ◌+◌, ◌-◌, ◌*◌, ◌<◌, ◌≤◌, Bool, false, ◌||◌, ◌&&◌, cond, List, [], ◌∷◌, ◌++◌, length, get_or, eqb, refl, sym, ◌∙◌, arith, ⊎_elim, ◌⊎◌, inl, inr, Option, Some, None, IfSome, IfNone}
use Rattle.std.specs.List.{AllByRecursion}
use Rattle.std.proofs.lemmas.Bool.{cases_lt, cases_eq, eqb-false, ne_eqb, or_parts, or_from, and_right, cond-false}
use Rattle.std.proofs.lemmas.List.Elements.{All-nil, All-cons, All-head, All-tail}
use Rattle.std.proofs.lemmas.List.Folds.{list_any-append}
use Rattle.std.proofs.lemmas.List.Sums.{sum_by-cons}
use Rattle.dimacs.specs.logic.Cnf.{Cnf, AreWithin}
use Rattle.dimacs.specs.logic.Literal.{Literal, Pos, Neg, Clause, same, has, var_of, IsWithin}
use Rattle.icnf.specs.Leaves.{IsFree}
use Rattle.dimacs.proofs.WithinLemmas.{EachWithin, each_within}
use Rattle.cube_split.specs.Choice.{has_variable, is_apart, stands_in, IsChoice, HasNoChoice, Choice}
use Rattle.cube_split.specs.inner.Marks.{AreMarked, IsUnmarked, IsGreatest}
use Rattle.cube_split.proofs.MarkLemmas.{marked_at, marked_same}

-- ---- free variables

differs : (w : ℕ) (l : Literal) → same (Pos w) l ≡ false → same (Neg w) l ≡ false → var_of l ≢ w
differs w (Pos v) p n e = eqb-false w v p (sym e)
differs w (Neg v) p n e = eqb-false w v n (sym e)

not_positive : (w : ℕ) (l : Literal) → var_of l ≢ w → same (Pos w) l ≡ false
not_positive w (Pos v) ne = ne_eqb w v (λ e. ne (sym e))
not_positive w (Neg v) ne = refl

not_negative : (w : ℕ) (l : Literal) → var_of l ≢ w → same (Neg w) l ≡ false
not_negative w (Pos v) ne = refl
not_negative w (Neg v) ne = ne_eqb w v (λ e. ne (sym e))

pub free_from : (S : List Literal) (w : ℕ) → has S (Pos w) ≡ false → has S (Neg w) ≡ false → IsFree S w
free_from [] w p n = All-nil (λ l. var_of l ≢ w)
free_from (l ∷ S) w p n =
    let ps = or_parts (same (Pos w) l) (has S (Pos w)) p in
    let ns = or_parts (same (Neg w) l) (has S (Neg w)) n in
    All-cons (λ l. var_of l ≢ w) l S (differs w l ps.0 ns.0) (free_from S w ps.1 ns.1)

pub free_positive : (S : List Literal) (w : ℕ) → IsFree S w → has S (Pos w) ≡ false
free_positive [] w h = refl
free_positive (l ∷ S) w h = or_from (same (Pos w) l) (has S (Pos w)) (not_positive w l (All-head (λ l. var_of l ≢ w) l S h)) (free_positive S w (All-tail (λ l. var_of l ≢ w) l S h))

pub free_negative : (S : List Literal) (w : ℕ) → IsFree S w → has S (Neg w) ≡ false
free_negative [] w h = refl
free_negative (l ∷ S) w h = or_from (same (Neg w) l) (has S (Neg w)) (not_negative w l (All-head (λ l. var_of l ≢ w) l S h)) (free_negative S w (All-tail (λ l. var_of l ≢ w) l S h))

pub unmarked_from : (marks : List Bool) (S : List Literal) (w : ℕ) → AreMarked marks (has S) → 2 * w + 1 < length marks → IsFree S w → IsUnmarked marks w
unmarked_from marks S w m below h = record {
  positive = marked_at marks (has S) (Pos w) m (omega arith) ∙ free_positive S w h;
  negative = marked_at marks (has S) (Neg w) m below ∙ free_negative S w h;
}

pub free_unmarked : (marks : List Bool) (S : List Literal) (w : ℕ) → AreMarked marks (has S) → 2 * w + 1 < length marks → IsUnmarked marks w → IsFree S w
free_unmarked marks S w m below u = free_from S w
    (sym (marked_at marks (has S) (Pos w) m (omega arith)) ∙ u.positive)
    (sym (marked_at marks (has S) (Neg w) m below) ∙ u.negative)

-- the literals of two lists are marked, one after the other
pub marked_both : (marks : List Bool) (xs ys : List Literal) → AreMarked marks (λ l. (false || has xs l) || has ys l) → AreMarked marks (has (xs ++ ys))
marked_both marks xs ys h = marked_same marks (λ l. (false || has xs l) || has ys l) (has (xs ++ ys)) (λ l. sym (list_any-append (same l) xs ys)) h

-- ---- variables that stand in no clause

no_variable : (vars w : ℕ) (C : Clause) → (w ≡ 0) ⊎ (vars < w) → AllByRecursion (IsWithin vars) C → has_variable C w ≡ false
no_variable vars w [] out h = refl
no_variable vars w (l ∷ C) out h =
    or_from (eqb (var_of l) w) (has_variable C w) (ne_eqb (var_of l) w (λ e. ⊎_elim (λ (z : w ≡ 0). absurd (omega (arith, h.0.0))) (λ (a : vars < w). absurd (omega (arith, h.0.1))) out)) (no_variable vars w C out h.1)

each_nowhere : (vars w : ℕ) (clauses : List Clause) (S : List Literal) → (w ≡ 0) ⊎ (vars < w) → EachWithin vars clauses → stands_in clauses S w ≡ 0
each_nowhere vars w [] S out h = refl
each_nowhere vars w (C ∷ clauses) S out h =
    let fails : (is_apart S C && has_variable C w) ≡ false = and_right (is_apart S C) (has_variable C w) (no_variable vars w C out h.0) in
    let none : cond {A = ℕ} (is_apart S C && has_variable C w) 1 0 ≡ 0 = cond-false {A = ℕ} (is_apart S C && has_variable C w) 1 0 fails in
    let rest = each_nowhere vars w clauses S out h.1 in
    let all = sum_by-cons (λ (D : Clause). cond {A = ℕ} (is_apart S D && has_variable D w) 1 0) C clauses in
    omega arith

pub stands_nowhere : (vars w : ℕ) (clauses : List Clause) (S : List Literal) → (w ≡ 0) ⊎ (vars < w) → AreWithin vars clauses → stands_in clauses S w ≡ 0
stands_nowhere vars w clauses S out h = each_nowhere vars w clauses S out (each_within vars clauses h)

inside_or_out : (vars w : ℕ) → ((0 < w) × (w ≤ vars)) ⊎ ((w ≡ 0) ⊎ (vars < w))
inside_or_out vars w = ⊎_elim
    (λ (z : w ≡ 0). inr (inl z))
    (λ (some : w ≡ 0 → ⊥). ⊎_elim (λ (a : vars < w). inr (inr a)) (λ (b : w ≤ vars). inl (omega arith, b)) (cases_lt vars w))
    (cases_eq w 0)

-- ---- the choice

-- tables that hold the marks of S, and how often each variable stands in a clause without a literal of S
pub record AreTables (f : Cnf) (S : List Literal) (marks : List Bool) (counts : List ℕ) : Type 0 where
  pub within : AreWithin f.vars f.clauses
  pub size : length marks ≡ 2 * length counts
  pub room : f.vars < length counts
  pub marked : AreMarked marks (has S)
  pub counted : (w : ℕ) → w < length counts → get_or counts w 0 ≡ stands_in f.clauses S w

pub choice_some : (f : Cnf) (S : List Literal) (marks : List Bool) (counts : List ℕ) (v : ℕ) → AreTables f S marks counts → IsGreatest marks counts (length counts - 1) v → IsChoice f S v
choice_some f S marks counts v t g =
    let here = t.counted v (omega (arith, t.room, g.below)) in
    record {
      free = free_unmarked marks S v t.marked (omega (arith, t.size, t.room, g.below)) g.unmarked;
      some = omega (arith, g.some);
      most = λ w free. ⊎_elim
          (λ (i : (0 < w) × (w ≤ f.vars)).
          let u = unmarked_from marks S w t.marked (omega (arith, t.size, t.room, i.1)) free in
          omega (arith, g.most w i.0 (omega (arith, t.room, i.1)) u, t.counted w (omega (arith, t.room, i.1))))
          (λ (o : (w ≡ 0) ⊎ (f.vars < w)). let none = stands_nowhere f.vars w f.clauses S o t.within in omega arith)
          (inside_or_out f.vars w);
      lowest = λ w free same. ⊎_elim
          (λ (i : (0 < w) × (w ≤ f.vars)).
          let u = unmarked_from marks S w t.marked (omega (arith, t.size, t.room, i.1)) free in
          let there = t.counted w (omega (arith, t.room, i.1)) in
          g.lowest w i.0 (omega (arith, t.room, i.1)) u (there ∙ same ∙ sym here))
          (λ (o : (w ≡ 0) ⊎ (f.vars < w)). let none = stands_nowhere f.vars w f.clauses S o t.within in absurd (omega (arith, g.some)))
          (inside_or_out f.vars w);
    }

pub choice_none : (f : Cnf) (S : List Literal) (marks : List Bool) (counts : List ℕ) → AreTables f S marks counts
    → ((w : ℕ) → 0 < w → w < length counts → IsUnmarked marks w → get_or counts w 0 ≡ 0) → HasNoChoice f S
choice_none f S marks counts t h = record {
  none = λ w free. ⊎_elim
      (λ (i : (0 < w) × (w ≤ f.vars)).
      let u = unmarked_from marks S w t.marked (omega (arith, t.size, t.room, i.1)) free in
      sym (t.counted w (omega (arith, t.room, i.1))) ∙ h w i.0 (omega (arith, t.room, i.1)) u)
      (λ (o : (w ≡ 0) ⊎ (f.vars < w)). stands_nowhere f.vars w f.clauses S o t.within)
      (inside_or_out f.vars w);
}

-- what the tables answer is the choice
pub choice_is : (f : Cnf) (S : List Literal) (marks : List Bool) (counts : List ℕ) (r : Option ℕ) → AreTables f S marks counts
    → IfSome r (IsGreatest marks counts (length counts - 1)) → IfNone r ((w : ℕ) → 0 < w → w < length counts → IsUnmarked marks w → get_or counts w 0 ≡ 0) → Choice f S r
choice_is f S marks counts None t some none = choice_none f S marks counts t none
choice_is f S marks counts (Some v) t some none = choice_some f S marks counts v t some
