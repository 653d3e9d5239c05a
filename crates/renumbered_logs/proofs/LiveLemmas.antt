-- How many clauses are live, and which ones after a deletion.
use Rattle.std.proofs.Common.{◌≡◌, ◌≢◌, ℕ, ◌+◌, ◌-◌, ◌≤◌, inl, inr, Bool, true, false, not, ◌||◌, List, [], ◌∷◌, length, Option, Some, None, cond, refl, sym, ◌∙◌, ap, subst, arith}
use Rattle.std.specs.Prelude.{IsSome, nat_eq, map}
use Rattle.std.specs.List.{Contains, IsDistinct, list_any, enumerate_from}
use Rattle.std.specs.Option.{is_some}
use Rattle.std.specs.FinMap.{get, insert, remove, len, find, from_entries, get-empty, get-remove, get-from_entries, len-empty, len-insert, len-remove, empty_of_len, same_map, nat_cmp-IsAntisymmetric}
use Rattle.std.specs.Ordering.{nat_cmp}
use Rattle.std.specs.Cmp.{nat_cmp_total}
use Rattle.std.proofs.lemmas.Bool.{true≢false, both_ways, cases_Bool, cases_eq, or_left, or_right, or_cases, eqb-true, eq-eqb, ne_eqb}
use Rattle.std.proofs.lemmas.List.Elements.{All-contains, All-from_recursion}
use Rattle.std.proofs.lemmas.Map.Keys.{IsDistinct-head, IsDistinct-tail}
use Rattle.dimacs.specs.logic.ClauseMap.{ClauseMap, map_of}
use Rattle.dimacs.specs.logic.Cnf.{Cnf}
use Rattle.dimacs.specs.logic.Literal.{Clause}
use Rattle.dimacs.proofs.Members.{Contains-head, Contains-cons, Contains-cons_cases, Contains-nil}
use Rattle.lrat_text.specs.Proof.{without}
use Rattle.lrat_text.proofs.ClauseMapLemmas.{apart_test, same_test, not_in, none_some}
use Rattle.proof_join.proofs.MapLemmas.{get_without, some_live}

-- ---- members of a list of numbers
any_from : (xs : List ℕ) (n : ℕ) → Contains xs n → list_any (nat_eq n) xs ≡ true
any_from [] n h = absurd (Contains-nil n h)
any_from (x ∷ xs) n h = elim (Contains-cons_cases x n xs h) [
  | inl e ↦ or_left (nat_eq n x) (list_any (nat_eq n) xs) (eq-eqb n x (sym e))
  | inr i ↦ or_right (nat_eq n x) (list_any (nat_eq n) xs) (any_from xs n i)
]

from_any : (xs : List ℕ) (n : ℕ) → list_any (nat_eq n) xs ≡ true → Contains xs n
from_any [] n h = absurd (true≢false (sym h))
from_any (x ∷ xs) n h = elim (or_cases (nat_eq n x) (list_any (nat_eq n) xs) h) [
  | inl e ↦ subst (Contains (x ∷ xs)) (sym (eqb-true n x e)) (Contains-head x xs)
  | inr r ↦ Contains-cons x n xs (from_any xs n r)
]

not_any : (ids : List ℕ) (n : ℕ) → ¬ (Contains ids n) → list_any (nat_eq n) ids ≡ false
not_any ids n out = elim (cases_Bool (list_any (nat_eq n) ids)) [
  | inl t ↦ absurd (out (from_any ids n t))
  | inr f ↦ f
]

pub in_map : (f : ℕ → ℕ) (xs : List ℕ) (n : ℕ) → Contains xs n → Contains (map f xs) (f n)
in_map f [] n h = absurd (Contains-nil n h)
in_map f (x ∷ xs) n h = elim (Contains-cons_cases x n xs h) [
  | inl e ↦ subst (λ y. Contains (map f (x ∷ xs)) (f y)) e (Contains-head (f x) (map f xs))
  | inr i ↦ Contains-cons (f x) (f n) (map f xs) (in_map f xs n i)
]

pub from_map : (f : ℕ → ℕ) (xs : List ℕ) (y : ℕ) → Contains (map f xs) y → (n : ℕ) × Contains xs n × (f n ≡ y)
from_map f [] y h = absurd (Contains-nil y h)
from_map f (x ∷ xs) y h = elim (Contains-cons_cases (f x) y (map f xs) h) [
  | inl e ↦ (x, Contains-head x xs, e)
  | inr i ↦ let r = from_map f xs y i in (r.0, Contains-cons x r.0 xs r.1, r.2)
]

-- ---- what is live after a deletion
pub still_live : (M : ClauseMap) (ids : List ℕ) (n : ℕ) (C : Clause) → get M n ≡ Some C → ¬ (Contains ids n) → get (without M ids) n ≡ Some C
still_live M ids n C h out = get_without M ids n ∙ ap (λ t. cond (not t) (get M n) None) (not_any ids n out) ∙ h

pub was_live : (M : ClauseMap) (ids : List ℕ) (n : ℕ) (C : Clause) → get (without M ids) n ≡ Some C → ¬ (Contains ids n) × (get M n ≡ Some C)
was_live M ids n C h = at (list_any (nat_eq n) ids) refl (sym (get_without M ids n) ∙ h)
  where
    at : (b : Bool) → list_any (nat_eq n) ids ≡ b → cond (not (list_any (nat_eq n) ids)) (get M n) None ≡ Some C → ¬ (Contains ids n) × (get M n ≡ Some C)
    at true e x = absurd (none_some C (sym (ap (λ t. cond (not t) (get M n) None) e) ∙ x))
    at false e x = (λ i. both_ways (list_any (nat_eq n) ids) e (any_from ids n i), sym (ap (λ t. cond (not t) (get M n) None) e) ∙ x)

-- ---- how many are live
one_fewer : (M : ClauseMap) (n : ℕ) (C : Clause) → get M n ≡ Some C → len (remove M n) + 1 ≡ len M
one_fewer M n C h =
    let fewer : len (remove M n) ≡ cond (is_some (get M n)) (len M - 1) (len M) = len-remove nat_cmp_total M n in
    let exact : len (remove M n) ≡ len M - 1 = fewer ∙ ap (λ (o : Option Clause). cond (is_some o) (len M - 1) (len M)) h in
    elim (cases_eq (len M) 0) [
      | inl none ↦ absurd (none_some C (sym (get-empty nat_cmp n) ∙ ap (λ (N : ClauseMap). get N n) (sym (empty_of_len M none)) ∙ h))
      | inr some ↦ omega arith
    ]

get_apart : (M : ClauseMap) (n q : ℕ) → q ≢ n → get (remove M n) q ≡ get M q
get_apart M n q ne = get-remove nat_cmp_total M n q ∙ ap (λ b. cond b None (get M q)) (apart_test q n ne)

get_gone : (M : ClauseMap) (n q : ℕ) → q ≡ n → get (remove M n) q ≡ None
get_gone M n q e = get-remove nat_cmp_total M n q ∙ ap (λ b. cond b None (get M q)) (same_test q n e)

without_none : (M : ClauseMap) → without M [] ≡ M
without_none M = same_map nat_cmp_total nat_cmp-IsAntisymmetric (without M []) M (λ q. get_without M [] q)

same_none : (b : Bool) → ◌≡◌ {A = Option Clause} None (cond b None None)
same_none true = refl
same_none false = refl

without_more : (M : ClauseMap) (id : ℕ) (ids : List ℕ) → without M (id ∷ ids) ≡ without (remove M id) ids
without_more M id ids = same_map nat_cmp_total nat_cmp-IsAntisymmetric (without M (id ∷ ids)) (without (remove M id) ids)
    (λ q. get_without M (id ∷ ids) q ∙ at q ∙ sym (get_without (remove M id) ids q))
  where
    gone : (b : Bool) (o : Option Clause) → o ≡ None → None ≡ cond (not b) o None
    gone true o e = refl
    gone false o e = sym e

    at : (q : ℕ) → cond (not (nat_eq q id || list_any (nat_eq q) ids)) (get M q) None ≡ cond (not (list_any (nat_eq q) ids)) (get (remove M id) q) None
    at q = elim (cases_eq q id) [
      | inl e ↦
          ap (λ t. cond (not (t || list_any (nat_eq q) ids)) (get M q) None) (eq-eqb q id e) ∙ gone (list_any (nat_eq q) ids) (get (remove M id) q) (get_gone M id q e)
      | inr d ↦
          ap (λ t. cond (not (t || list_any (nat_eq q) ids)) (get M q) None) (ne_eqb q id d)
          ∙ ap (λ (o : Option Clause). cond (not (list_any (nat_eq q) ids)) o None) (sym (get_apart M id q d))
    ]

-- a deletion of distinct live clauses takes as many as it names
pub len_without : (ids : List ℕ) (M : ClauseMap) → ((n : ℕ) → Contains ids n → IsSome (get M n)) → IsDistinct nat_eq ids → len (without M ids) + length ids ≡ len M
len_without [] M live apart = let e = ap len (without_none M) in omega arith
len_without (id ∷ ids) M live apart =
    let others : (n : ℕ) → Contains ids n → nat_eq id n ≡ false = λ n i.
    All-contains (λ y. nat_eq id y ≡ false) ids n (All-from_recursion (λ y. nat_eq id y ≡ false) ids (IsDistinct-head nat_eq id ids apart)) i in
    let rest = len_without ids (remove M id) (λ n i.
    subst (λ (o : Option Clause). IsSome o) (sym (get_apart M id n (λ e. both_ways (nat_eq id n) (others n i) (eq-eqb id n (sym e))))) (live n (Contains-cons id n ids i)))
    (IsDistinct-tail nat_eq id ids apart) in
    let e : len (without M (id ∷ ids)) ≡ len (without (remove M id) ids) = ap len (without_more M id ids) in
    let c = some_live M id (live id (Contains-head id ids)) in
    let fewer = one_fewer M id c.0 c.1 in
    omega arith

-- an addition under a number that is not live takes one more
pub len_added : (M : ClauseMap) (n : ℕ) (C : Clause) → get M n ≡ None → len (insert M n C) ≡ len M + 1
len_added M n C none = len-insert nat_cmp_total M n C ∙ ap (λ (o : Option Clause). cond (is_some o) (len M) (len M + 1)) none

found_between : (F : List Clause) (n q : ℕ) (C : Clause) → find nat_cmp q (enumerate_from n F) ≡ Some C → n ≤ q
found_between [] n q C e = absurd (none_some C e)
found_between (D ∷ F) n q C e = elim (cases_eq q n) [
  | inl s ↦ omega arith
  | inr d ↦
      let r = found_between F (n + 1) q C (sym (ap (λ b. cond b (Some D) (find nat_cmp q (enumerate_from (n + 1) F))) (apart_test q n d)) ∙ e) in
      omega arith
]

len_from : (n : ℕ) (F : List Clause) → len (from_entries {R = nat_cmp} (enumerate_from n F)) ≡ length F
len_from n [] = len-empty nat_cmp Clause
len_from n (C ∷ F) =
    let rest : ClauseMap = from_entries (enumerate_from (n + 1) F) in
    let more = len_added rest n C (not_in rest n (λ D h.
    let low = found_between F (n + 1) n D (sym (get-from_entries nat_cmp_total (enumerate_from (n + 1) F) n) ∙ h) in
    omega arith)) in
    let e = len_from (n + 1) F in
    omega arith

pub len_formula : (F : Cnf) → len (map_of F) ≡ length F.clauses
len_formula F = len_from 1 F.clauses
