-- The levels at which clauses are closed, and the counts of those that are open.
use Rattle.std.proofs.Common.{◌≡◌, ℕ, zero, suc, ◌+◌, ◌<◌, ◌≤◌, Bool, true, false, ◌||◌, ◌&&◌, cond, List, [], ◌∷◌, ◌++◌, length, get_or, take, eqb, refl, sym, ap, ◌∙◌, arith, ⊎_elim, ◌⊎◌, inl, inr}
use Rattle.std.specs.List.{list_any, count_by}
use Rattle.std.proofs.lemmas.Bool.{cases_eq, cases_Bool, eq-eqb, ne_eqb, not-true as not_true, not-false as not_false, not_from_true, not_from_false, both_ways, or_parts, or_from, or_left}
use Rattle.std.proofs.lemmas.List.{take_all}
use Rattle.std.proofs.lemmas.List.Sums.{count_by_more_yes, count_by_more_no, sum_by-cons}
use Rattle.dimacs.specs.logic.Literal.{Literal, Clause, same, has}
use Rattle.dimacs.proofs.LiteralLemmas.{same-flips}
use Rattle.icnf.specs.Leaves.{Cube}
use Rattle.cube_split.specs.Choice.{has_variable, is_apart, stands_in}
use Rattle.cube_split.specs.inner.OpenClauses.{AreTurned, open_count}
use Rattle.cube_split.specs.inner.WalkInvariant.{level_of, closed_at}
use Rattle.cube_split.proofs.CountLemmas.{one_if_true, one_if_false}

level_yes : (n : ℕ) (l : Literal) (path : Cube) (C : Clause) → has C l ≡ true → level_of n (l ∷ path) C ≡ n
level_yes n l path C e = rw e refl

level_no : (n : ℕ) (l : Literal) (path : Cube) (C : Clause) → has C l ≡ false → level_of n (l ∷ path) C ≡ level_of (n + 1) path C
level_no n l path C e = rw e refl

-- a level is below the next one
level_below : (n : ℕ) (path : Cube) (C : Clause) → 0 < n → level_of n path C < n + length path ⊎ (level_of n path C ≡ 0)
level_below n [] C h = inr refl
level_below n (l ∷ path) C h = ⊎_elim
    (λ (yes : has C l ≡ true). let e = level_yes n l path C yes in inl (omega arith))
    (λ (no : has C l ≡ false).
    let e = level_no n l path C no in
    ⊎_elim (λ (lt : level_of (n + 1) path C < (n + 1) + length path). inl (omega arith)) (λ (z : level_of (n + 1) path C ≡ 0). inr (e ∙ z)) (level_below (n + 1) path C (omega arith)))
    (cases_Bool (has C l))

-- one more literal
level_kept : (n : ℕ) (path : Cube) (C : Clause) (l : Literal) → 0 < level_of n path C → level_of n (path ++ l ∷ []) C ≡ level_of n path C
level_kept n [] C l h = absurd (omega arith)
level_kept n (x ∷ path) C l h = ⊎_elim
    (λ (yes : has C x ≡ true). level_yes n x (path ++ l ∷ []) C yes ∙ sym (level_yes n x path C yes))
    (λ (no : has C x ≡ false). let e = level_no n x path C no in level_no n x (path ++ l ∷ []) C no ∙ level_kept (n + 1) path C l (omega arith) ∙ sym e)
    (cases_Bool (has C x))

level_new : (n : ℕ) (path : Cube) (C : Clause) (l : Literal) → 0 < n → level_of n path C ≡ 0 → has C l ≡ true → level_of n (path ++ l ∷ []) C ≡ n + length path
level_new n [] C l h none held = level_yes n l [] C held ∙ omega arith
level_new n (x ∷ path) C l h none held = ⊎_elim
    (λ (here : has C x ≡ true). let e = level_yes n x path C here in absurd (omega arith))
    (λ (no : has C x ≡ false). let e = level_no n x path C no in let more = level_new (n + 1) path C l (omega arith) (sym e ∙ none) held in level_no n x (path ++ l ∷ []) C no ∙ omega arith)
    (cases_Bool (has C x))

level_none : (n : ℕ) (path : Cube) (C : Clause) (l : Literal) → 0 < n → level_of n path C ≡ 0 → has C l ≡ false → level_of n (path ++ l ∷ []) C ≡ 0
level_none n [] C l h none missed = level_no n l [] C missed
level_none n (x ∷ path) C l h none missed = ⊎_elim
    (λ (here : has C x ≡ true). let e = level_yes n x path C here in absurd (omega arith))
    (λ (miss : has C x ≡ false). let e = level_no n x path C miss in level_no n x (path ++ l ∷ []) C miss ∙ level_none (n + 1) path C l (omega arith) (sym e ∙ none) missed)
    (cases_Bool (has C x))

-- ---- levels with the units

closed_units : (units : List Literal) (path : Cube) (C : Clause) → is_apart units C ≡ false → closed_at units path C ≡ 1
closed_units units path C e = rw e refl

closed_path : (units : List Literal) (path : Cube) (C : Clause) → is_apart units C ≡ true → closed_at units path C ≡ level_of 2 path C
closed_path units path C e = rw e refl

-- a literal closes what is open and holds it
pub closed_more : (n : ℕ) (clause : ℕ → Clause) (units : List Literal) (path : Cube) (l : Literal) (old new : List ℕ) → AreTurned n clause l 0 (length path + 2) old new
    → ((i : ℕ) → i < n → get_or old i 0 ≡ closed_at units path (clause i)) → (i : ℕ) → i < n → get_or new i 0 ≡ closed_at units (path ++ l ∷ []) (clause i)
closed_more n clause units path l old new t was i below = ⊎_elim
    (λ (far : is_apart units (clause i) ≡ true).
    let old_is = was i below ∙ closed_path units path (clause i) far in
    back (closed_path units (path ++ l ∷ []) (clause i) far) (⊎_elim
    (λ (z : level_of 2 path (clause i) ≡ 0). ⊎_elim
    (λ (yes : has (clause i) l ≡ true). t.turned i below yes (old_is ∙ z) ∙ omega arith ∙ sym (level_new 2 path (clause i) l (omega arith) z yes))
    (λ (no : has (clause i) l ≡ false). t.kept i below (λ yes e. both_ways (has (clause i) l) no yes) ∙ old_is ∙ z ∙ sym (level_none 2 path (clause i) l (omega arith) z no))
    (cases_Bool (has (clause i) l)))
    (λ (some : level_of 2 path (clause i) ≡ 0 → ⊥). t.kept i below (λ yes e. some (sym old_is ∙ e)) ∙ old_is ∙ sym (level_kept 2 path (clause i) l (omega arith)))
    (cases_eq (level_of 2 path (clause i)) 0)))
    (λ (near : is_apart units (clause i) ≡ false).
    let old_is = was i below ∙ closed_units units path (clause i) near in
    t.kept i below (λ yes e. absurd (omega arith)) ∙ old_is ∙ sym (closed_units units (path ++ l ∷ []) (clause i) near))
    (cases_Bool (is_apart units (clause i)))
  where
    back : {x y z : ℕ} → x ≡ y → z ≡ y → z ≡ x
    back e f = f ∙ sym e

-- and opens it again
pub closed_less : (n : ℕ) (clause : ℕ → Clause) (units : List Literal) (path : Cube) (l : Literal) (old new : List ℕ) → AreTurned n clause l (length path + 2) 0 old new
    → ((i : ℕ) → i < n → get_or old i 0 ≡ closed_at units (path ++ l ∷ []) (clause i)) → (i : ℕ) → i < n → get_or new i 0 ≡ closed_at units path (clause i)
closed_less n clause units path l old new t was i below = ⊎_elim
    (λ (far : is_apart units (clause i) ≡ true).
    let old_is = was i below ∙ closed_path units (path ++ l ∷ []) (clause i) far in
    let goal_is = closed_path units path (clause i) far in
    ⊎_elim
    (λ (z : level_of 2 path (clause i) ≡ 0). ⊎_elim
    (λ (yes : has (clause i) l ≡ true). t.turned i below yes (old_is ∙ level_new 2 path (clause i) l (omega arith) z yes ∙ omega arith) ∙ sym z ∙ sym goal_is)
    (λ (no : has (clause i) l ≡ false). t.kept i below (λ yes e. both_ways (has (clause i) l) no yes) ∙ old_is ∙ level_none 2 path (clause i) l (omega arith) z no ∙ sym z ∙ sym goal_is)
    (cases_Bool (has (clause i) l)))
    (λ (some : level_of 2 path (clause i) ≡ 0 → ⊥).
    let stays = level_kept 2 path (clause i) l (omega arith) in
    let low : level_of 2 path (clause i) < 2 + length path = ⊎_elim (λ (lt : level_of 2 path (clause i) < 2 + length path). lt) (λ (z : level_of 2 path (clause i) ≡ 0). absurd (some z)) (level_below 2 path (clause i) (omega arith)) in
    t.kept i below (λ yes e. absurd (omega arith)) ∙ old_is ∙ stays ∙ sym goal_is)
    (cases_eq (level_of 2 path (clause i)) 0))
    (λ (near : is_apart units (clause i) ≡ false).
    let old_is = was i below ∙ closed_units units (path ++ l ∷ []) (clause i) near in
    t.kept i below (λ yes e. absurd (omega arith)) ∙ old_is ∙ sym (closed_units units path (clause i) near))
    (cases_Bool (is_apart units (clause i)))

-- ---- what is open

-- a clause without a literal of a list
apart_cons : (l : Literal) (S : List Literal) (C : Clause) → list_any (has (l ∷ S)) C ≡ (has C l || list_any (has S) C)
apart_cons l S [] = refl
apart_cons l S (x ∷ C) = shuffle (same x l) (has S x) (has C l) (list_any (has S) C) (same l x) (list_any (has (l ∷ S)) C) (same-flips x l) (apart_cons l S C) where
  shuffle : (a b c d e f : Bool) → a ≡ e → f ≡ (c || d) → ((a || b) || f) ≡ ((e || c) || (b || d))
  shuffle a b c d e f same is = rw (same, is) (table e b c d) where
    table : (e b c d : Bool) → ((e || b) || (c || d)) ≡ ((e || c) || (b || d))
    table true b c d = refl
    table false true true d = refl
    table false true false d = refl
    table false false c d = refl

apart_both : (S T : List Literal) (C : Clause) → list_any (has (S ++ T)) C ≡ (list_any (has S) C || list_any (has T) C)
apart_both [] T C = sym (ap (λ (b : Bool). b || list_any (has T) C) (nothing C)) where
  nothing : (D : Clause) → list_any (has []) D ≡ false
  nothing [] = refl
  nothing (x ∷ D) = nothing D
apart_both (l ∷ S) T C = apart_cons l (S ++ T) C ∙ ap (λ (b : Bool). has C l || b) (apart_both S T C) ∙ or_assoc (has C l) (list_any (has S) C) (list_any (has T) C) ∙ ap (λ (b : Bool). b || list_any (has T) C) (sym (apart_cons l S C)) where
  or_assoc : (a b c : Bool) → (a || (b || c)) ≡ ((a || b) || c)
  or_assoc true b c = refl
  or_assoc false b c = refl

zero_apart : (n : ℕ) (path : Cube) (C : Clause) → 0 < n → level_of n path C ≡ 0 → list_any (has path) C ≡ false
zero_apart n [] C h z = nothing C where
  nothing : (D : Clause) → list_any (has []) D ≡ false
  nothing [] = refl
  nothing (x ∷ D) = nothing D
zero_apart n (l ∷ path) C h z = ⊎_elim
    (λ (yes : has C l ≡ true). let e = level_yes n l path C yes in absurd (omega arith))
    (λ (no : has C l ≡ false). apart_cons l path C ∙ or_from (has C l) (list_any (has path) C) no (zero_apart (n + 1) path C (omega arith) (sym (level_no n l path C no) ∙ z)))
    (cases_Bool (has C l))

apart_zero : (n : ℕ) (path : Cube) (C : Clause) → list_any (has path) C ≡ false → level_of n path C ≡ 0
apart_zero n [] C far = refl
apart_zero n (l ∷ path) C far =
    let parts = or_parts (has C l) (list_any (has path) C) (sym (apart_cons l path C) ∙ far) in
    level_no n l path C parts.0 ∙ apart_zero (n + 1) path C parts.1

-- a clause is open exactly if no literal of units and path stands in it
open_is : (units : List Literal) (path : Cube) (C : Clause) → eqb (closed_at units path C) 0 ≡ is_apart (units ++ path) C
open_is units path C = ⊎_elim
    (λ (far : is_apart units C ≡ true).
    let none : list_any (has units) C ≡ false = not_true _ far in
    let both : list_any (has (units ++ path)) C ≡ list_any (has path) C = apart_both units path C ∙ ap (λ (b : Bool). b || list_any (has path) C) none in
    ap (λ (k : ℕ). eqb k 0) (closed_path units path C far) ∙ ⊎_elim
    (λ (z : level_of 2 path C ≡ 0). eq-eqb _ _ z ∙ sym (not_from_false _ (both ∙ zero_apart 2 path C (omega arith) z)))
    (λ (some : level_of 2 path C ≡ 0 → ⊥). ne_eqb _ _ some ∙ sym (not_from_true _ (both ∙ met some)))
    (cases_eq (level_of 2 path C) 0))
    (λ (near : is_apart units C ≡ false).
    let some : list_any (has units) C ≡ true = not_false _ near in
    let both : list_any (has (units ++ path)) C ≡ true = apart_both units path C ∙ or_left (list_any (has units) C) (list_any (has path) C) some in
    ap (λ (k : ℕ). eqb k 0) (closed_units units path C near) ∙ sym (not_from_true _ both))
    (cases_Bool (is_apart units C)) where
      met : (level_of 2 path C ≡ 0 → ⊥) → list_any (has path) C ≡ true
      met some = ⊎_elim
          (λ (yes : list_any (has path) C ≡ true). yes)
          (λ (no : list_any (has path) C ≡ false). absurd (some (apart_zero 2 path C no)))
          (cases_Bool (list_any (has path) C))

-- the counts of open clauses are those of the split rule
counts_are : (n : ℕ) (clauses : List Clause) (clause : ℕ → Clause) (units : List Literal) (path : Cube) (closed : List ℕ) (w : ℕ) → n ≤ length clauses → ((i : ℕ) → i < n → clause i ≡ get_or clauses i [])
    → ((i : ℕ) → i < n → get_or closed i 0 ≡ closed_at units path (clause i)) → open_count n clause closed w ≡ count_by (λ C. is_apart (units ++ path) C && has_variable C w) (take n clauses)
counts_are zero clauses clause units path closed w fits same stands = refl
counts_are (suc n) clauses clause units path closed w fits same stands =
    let rest = counts_are n clauses clause units path closed w (omega arith) (λ i b. same i (omega arith)) (λ i b. stands i (omega arith)) in
    let here : (eqb (get_or closed n 0) 0 && has_variable (clause n) w) ≡ (is_apart (units ++ path) (get_or clauses n []) && has_variable (get_or clauses n []) w) =
    ap (λ (k : ℕ). eqb k 0 && has_variable (clause n) w) (stands n (omega arith)) ∙ ap (λ (b : Bool). b && has_variable (clause n) w) (open_is units path (clause n)) ∙ ap (λ (C : Clause). is_apart (units ++ path) C && has_variable C w) (same n (omega arith)) in
    let next : suc n ≡ n + 1 = omega arith in
    ⊎_elim
    (λ (yes : (is_apart (units ++ path) (get_or clauses n []) && has_variable (get_or clauses n []) w) ≡ true).
    let one = one_if_true (eqb (get_or closed n 0) 0 && has_variable (clause n) w) (here ∙ yes) in
    let more = count_by_more_yes (λ C. is_apart (units ++ path) C && has_variable C w) clauses n [] (omega arith) yes in
    let all : count_by (λ C. is_apart (units ++ path) C && has_variable C w) (take (suc n) clauses) ≡ count_by (λ C. is_apart (units ++ path) C && has_variable C w) (take (n + 1) clauses) = ap (λ (k : ℕ). count_by (λ C. is_apart (units ++ path) C && has_variable C w) (take k clauses)) next in
    omega arith)
    (λ (no : (is_apart (units ++ path) (get_or clauses n []) && has_variable (get_or clauses n []) w) ≡ false).
    let none = one_if_false (eqb (get_or closed n 0) 0 && has_variable (clause n) w) (here ∙ no) in
    let more = count_by_more_no (λ C. is_apart (units ++ path) C && has_variable C w) clauses n [] (omega arith) no in
    let all : count_by (λ C. is_apart (units ++ path) C && has_variable C w) (take (suc n) clauses) ≡ count_by (λ C. is_apart (units ++ path) C && has_variable C w) (take (n + 1) clauses) = ap (λ (k : ℕ). count_by (λ C. is_apart (units ++ path) C && has_variable C w) (take k clauses)) next in
    omega arith)
    (cases_Bool (is_apart (units ++ path) (get_or clauses n []) && has_variable (get_or clauses n []) w))

pub stands_are : (clauses : List Clause) (clause : ℕ → Clause) (units : List Literal) (path : Cube) (closed : List ℕ) (w : ℕ) → ((i : ℕ) → i < length clauses → clause i ≡ get_or clauses i [])
    → ((i : ℕ) → i < length clauses → get_or closed i 0 ≡ closed_at units path (clause i)) → open_count (length clauses) clause closed w ≡ stands_in clauses (units ++ path) w
stands_are clauses clause units path closed w same stands =
    counts_are (length clauses) clauses clause units path closed w (omega arith) same stands ∙ ap (count_by (λ C. is_apart (units ++ path) C && has_variable C w)) (take_all (length clauses) clauses (omega arith))

-- a clause in front
count_cons : (p : Clause → Bool) (C : Clause) (clauses : List Clause) → count_by p (C ∷ clauses) ≡ cond (p C) 1 0 + count_by p clauses
count_cons p C clauses = sum_by-cons (λ D. cond {A = ℕ} (p D) 1 0) C clauses

-- what stands in no clause apart from some literals stands in none apart from more
pub stands_less : (clauses : List Clause) (units : List Literal) (path : Cube) (w : ℕ) → stands_in clauses units w ≡ 0 → stands_in clauses (units ++ path) w ≡ 0
stands_less [] units path w h = refl
stands_less (C ∷ clauses) units path w h =
    let before = count_cons (λ D. is_apart units D && has_variable D w) C clauses in
    let behind = count_cons (λ D. is_apart (units ++ path) D && has_variable D w) C clauses in
    ⊎_elim
    (λ (held : (is_apart units C && has_variable C w) ≡ true). let one = one_if_true (is_apart units C && has_variable C w) held in absurd (omega arith))
    (λ (missed : (is_apart units C && has_variable C w) ≡ false).
    let none = one_if_false (is_apart units C && has_variable C w) missed in
    let rest : stands_in clauses units w ≡ 0 = omega arith in
    let fewer = one_if_false (is_apart (units ++ path) C && has_variable C w) (less (is_apart units C) (has_variable C w) (is_apart (units ++ path) C) missed (λ far. not_from_false _ (or_parts (list_any (has units) C) (list_any (has path) C) (sym (apart_both units path C) ∙ not_true _ far)).0)) in
    omega (arith, stands_less clauses units path w rest))
    (cases_Bool (is_apart units C && has_variable C w)) where
      less : (a b c : Bool) → (a && b) ≡ false → (c ≡ true → a ≡ true) → (c && b) ≡ false
      less a b true missed h = ap (λ (x : Bool). x && b) (sym (h refl)) ∙ missed
      less a b false missed h = refl
