-- Finite maps from numbers to clauses: a formula's, and with one clause more.
use Rattle.std.proofs.Common.{zero, suc, ◌≡◌, ◌≢◌, ℕ, ◌+◌, ◌<◌, ◌≤◌, inl, inr, Bool, true, false, eqb, List, [], ◌∷◌, ◌++◌, length, get_or, Option, Some, None, cond, refl, sym, ◌∙◌, ap, arith}
use Rattle.std.specs.List.{enumerate_from}
use Rattle.std.specs.Option.{unwrap_or}
use Rattle.std.specs.FinMap.{get, insert, len, find, from_entries, contains_key, get-insert, get-from_entries, len-insert, len-empty, from_entries_push, nat_cmp-IsAntisymmetric}
use Rattle.std.specs.Ordering.{nat_cmp, eq_by_cmp}
use Rattle.std.specs.Cmp.{nat_cmp_total}
use Rattle.std.proofs.lemmas.Bool.{cases_eq, eq-eqb, ne_eqb}
use Rattle.std.proofs.lemmas.Bool.Decides.{nat_tests}
use Rattle.std.proofs.lemmas.List.FromFn.{length-enumerate_from}
use Rattle.dimacs.specs.logic.Literal.{Clause}
use Rattle.dimacs.specs.logic.ClauseMap.{ClauseMap, live_in}

-- ---- tests of numbers
eq_by_nat_cmp : (q k : ℕ) → eq_by_cmp nat_cmp q k ≡ eqb q k
eq_by_nat_cmp q k = grind (arith, nat_tests)

pub apart_test : (q k : ℕ) → q ≢ k → eq_by_cmp nat_cmp q k ≡ false
apart_test q k n = eq_by_nat_cmp q k ∙ ne_eqb q k n

pub same_test : (q k : ℕ) → q ≡ k → eq_by_cmp nat_cmp q k ≡ true
same_test q k e = eq_by_nat_cmp q k ∙ eq-eqb q k e

-- ---- one more
pub get_here : (M : ClauseMap) (n : ℕ) (C : Clause) → get (insert M n C) n ≡ Some C
get_here M n C = get-insert nat_cmp_total M n C n ∙ ap (λ b. cond b (Some C) (get M n)) (same_test n n refl)

pub get_other : (M : ClauseMap) (n q : ℕ) (C : Clause) → q ≢ n → get (insert M n C) q ≡ get M q
get_other M n q C ne = get-insert nat_cmp_total M n C q ∙ ap (λ b. cond b (Some C) (get M q)) (apart_test q n ne)

pub len_more : (M : ClauseMap) (n : ℕ) (C : Clause) → len (insert M n C) ≤ len M + 1
len_more M n C = omega (arith, len-insert nat_cmp_total M n C, at (contains_key M n))
  where
    at : (b : Bool) → cond b (len M) (len M + 1) ≤ len M + 1
    at true = omega arith
    at false = omega arith

pub none_some : (C : Clause) → ◌≡◌ {A = Option Clause} None (Some C) → ⊥
none_some C e = cc

pub some_is : (C D : Clause) → ◌≡◌ {A = Option Clause} (Some C) (Some D) → C ≡ D
some_is C D e = ap (λ (o : Option Clause). unwrap_or o C) e

-- a number under which nothing is live
pub not_in : (M : ClauseMap) (n : ℕ) → ((C : Clause) → live_in M n C → ⊥) → get M n ≡ None
not_in M n h = at (get M n) refl
  where
    at : (o : Option Clause) → get M n ≡ o → get M n ≡ None
    at None e = e
    at (Some C) e = absurd (h C e)

-- ---- the clauses of a formula
abbrev pub numbered : List Clause → ClauseMap
numbered F = from_entries (enumerate_from 1 F)

enumerate_from-push : (n : ℕ) (F : List Clause) (C : Clause) → enumerate_from n (F ++ C ∷ []) ≡ enumerate_from n F ++ (n + length F, C) ∷ []
enumerate_from-push n [] C = ap (λ k. (k, C) ∷ []) (let e : n ≡ n + 0 = omega arith in e)
enumerate_from-push n (D ∷ F) C =
    ap (λ es. (n, D) ∷ es) (enumerate_from-push (n + 1) F C ∙ ap (λ k. enumerate_from (n + 1) F ++ (k, C) ∷ []) (let e : (n + 1) + length F ≡ n + length (D ∷ F) = omega arith in e))

found_between : (F : List Clause) (n q : ℕ) (C : Clause) → find nat_cmp q (enumerate_from n F) ≡ Some C → (n ≤ q) × (q < n + length F)
found_between [] n q C e = absurd (none_some C e)
found_between (D ∷ F) n q C e = elim (cases_eq q n) [
  | inl s ↦ (omega arith, omega arith)
  | inr d ↦
      let r = found_between F (n + 1) q C (sym (ap (λ b. cond b (Some D) (find nat_cmp q (enumerate_from (n + 1) F))) (apart_test q n d)) ∙ e) in
      let a = r.0 in
      let b = r.1 in
      (omega arith, omega arith)
]

found_at : (F : List Clause) (n q i : ℕ) (d : Clause) → q ≡ n + i → i < length F → find nat_cmp q (enumerate_from n F) ≡ Some (get_or F i d)
found_at [] n q i d e l = absurd (omega arith)
found_at (D ∷ F) n q zero d e l = ap (λ b. cond b (Some D) (find nat_cmp q (enumerate_from (n + 1) F))) (same_test q n (omega arith))
found_at (D ∷ F) n q (suc i) d e l =
    ap (λ b. cond b (Some D) (find nat_cmp q (enumerate_from (n + 1) F))) (apart_test q n (λ s. omega arith)) ∙ found_at F (n + 1) q i d (omega arith) (omega arith)

pub numbered_between : (F : List Clause) (q : ℕ) (C : Clause) → live_in (numbered F) q C → (1 ≤ q) × (q < length F + 1)
numbered_between F q C h =
    let r = found_between F 1 q C (sym (get-from_entries nat_cmp_total (enumerate_from 1 F) q) ∙ h) in
    let b = r.1 in
    (r.0, omega arith)

pub numbered_at : (F : List Clause) (i : ℕ) (d : Clause) → i < length F → live_in (numbered F) (i + 1) (get_or F i d)
numbered_at F i d l = get-from_entries nat_cmp_total (enumerate_from 1 F) (i + 1) ∙ found_at F 1 (i + 1) i d (omega arith) l

pub numbered_none : (F : List Clause) (q : ℕ) → length F < q → get (numbered F) q ≡ None
numbered_none F q l = not_in (numbered F) q (λ C h. let r = numbered_between F q C h in let b = r.1 in omega arith)

pub numbered-push : (F : List Clause) (C : Clause) → numbered (F ++ C ∷ []) ≡ insert (numbered F) (length F + 1) C
numbered-push F C =
    ap (λ es. from_entries es) (enumerate_from-push 1 F C)
    ∙ from_entries_push nat_cmp_total nat_cmp-IsAntisymmetric (enumerate_from 1 F) (1 + length F) C
    (sym (get-from_entries nat_cmp_total (enumerate_from 1 F) (1 + length F)) ∙ numbered_none F (1 + length F) (omega arith))
    ∙ ap (λ k. insert (numbered F) k C) (let e : 1 + length F ≡ length F + 1 = omega arith in e)

len-from_entries : (es : List (ℕ × Clause)) → len (from_entries {R = nat_cmp} es) ≤ length es
len-from_entries [] = omega (arith, len-empty nat_cmp Clause)
len-from_entries (e ∷ es) = omega (arith, len-from_entries es, len_more (from_entries {R = nat_cmp} es) e.0 e.1)

pub len-numbered : (F : List Clause) → len (numbered F) ≤ length F
len-numbered F = omega (arith, len-from_entries (enumerate_from 1 F), length-enumerate_from 1 F)
