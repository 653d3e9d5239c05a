-- Sets of literals, and numbers that rise.
use mathlib.Core.Path.{fun_ext}
use Rattle.std.proofs.Common.{◌≡◌, ℕ, ◌+◌, ◌<◌, ◌≤◌, Bool, true, false, ◌||◌, List, [], ◌∷◌, ◌++◌, Result, Ok, Err, inl, inr, refl, sym, ◌∙◌, ap, subst, take, drop, length, get_or, arith}
use Rattle.std.specs.Prelude.{nat_eq, nat_lt}
use Rattle.std.specs.List.{Contains, list_any}
use Rattle.std.specs.List.Sorted.{IsBinarySearchResult}
use Rattle.std.specs.Ordering.{nat_cmp}
use Rattle.std.specs.Result.{is_ok}
use Rattle.std.proofs.lemmas.Bool.{cases_Bool, eq-eqb, ne_eqb}
use Rattle.std.proofs.lemmas.Bool.Decides.{nat_tests}
use Rattle.std.proofs.lemmas.List.{take_more, take-append-drop}
use Rattle.std.proofs.lemmas.List.Elements.{All-from_get_or, Contains-append_left}
use Rattle.std.proofs.lemmas.List.Folds.{list_any-append, list_any_at, list_any_none}
use Rattle.std.proofs.lemmas.List.Sorted.{searched}
use Rattle.dimacs.specs.logic.Literal.{Literal, Clause, has, negation, same}
use Rattle.dimacs.specs.logic.Propagation.{Assumed, with_literal}
use Rattle.dimacs.proofs.Members.{has-Contains}
use Rattle.lrat_check.specs.StepFaults.{is_tautology}
use Rattle.lrat_check.proofs.Pairs.{no_pair-push, pair_tautology}
use Rattle.sessions.specs.inner.Sets.{IsRising, set_in}

-- ---- one literal more
swapped : (a b : Bool) → (a || b) ≡ (b || (a || false))
swapped true true = refl
swapped true false = refl
swapped false true = refl
swapped false false = refl

has-push : (C : Clause) (l : Literal) → with_literal (has C) l ≡ has (C ++ l ∷ [])
has-push C l = fun_ext (λ k. swapped (same k l) (has C k) ∙ sym (list_any-append (same k) C (l ∷ [])))

pub held_more : (C : Clause) (i : ℕ) (l : Literal) (old new : Assumed) → i < length C → l ≡ get_or C i l → old ≡ has (take i C) → new ≡ with_literal old l → new ≡ has (take (i + 1) C)
held_more C i l old new below at held put =
    put
    ∙ ap (λ (α : Assumed). with_literal α l) held
    ∙ has-push (take i C) l
    ∙ ap (λ (x : Literal). has (take i C ++ x ∷ [])) at
    ∙ ap has (sym (take_more C i l below))

-- ---- pairs
module _ (C : Clause) (i : ℕ) (l k : Literal) (stamps now : List ℕ) (stamp : ℕ) (b : Bool) (below : i < length C) (at : l ≡ get_or C i l) (held : set_in stamps stamp ≡ has (take i C))
    (same_stamps : now ≡ stamps) (is : k ≡ negation l) (tells : b ≡ set_in now stamp k) where
  here : b ≡ has (take i C) (negation l)
  here = tells ∙ ap (λ (x : List ℕ). set_in x stamp k) same_stamps ∙ ap (λ (α : Assumed). α k) held ∙ ap (has (take i C)) is

  pub pair_found : b ≡ true → true ≡ is_tautology C
  pair_found t =
      let member : Contains (take i C) (negation l) = has-Contains (take i C) (negation l) (sym here ∙ t) in
      sym (pair_tautology C (l, (i, below, sym at), subst (λ (x : Clause). Contains x (negation l)) (take-append-drop i C) (Contains-append_left (take i C) (drop i C) (negation l) member)))

  pub no_pair_more : b ≡ false → is_tautology (take i C) ≡ false → is_tautology (take (i + 1) C) ≡ false
  no_pair_more f none =
      ap is_tautology (take_more C i l below) ∙ ap (λ (x : Literal). is_tautology (take i C ++ x ∷ [])) (sym at)
      ∙ no_pair-push (take i C) l none (sym here ∙ f)

-- ---- numbers that rise
pub found : (xs : List ℕ) (x : ℕ) (r : Result ℕ ℕ) → IsRising xs → IsBinarySearchResult (λ y. nat_cmp y x) xs r → is_ok r ≡ list_any (nat_eq x) xs
found xs x (Ok i) rising h =
    let (below, e) = searched xs x (Ok i) h rising in
    sym (list_any_at (nat_eq x) xs i 0 below (eq-eqb x (get_or xs i 0) (sym e)))
found xs x (Err i) rising h =
    let (low, before, behind) = searched xs x (Err i) h rising in
    sym (list_any_none (nat_eq x) xs (All-from_get_or (λ y. nat_eq x y ≡ false) xs 0 (λ k inside. ne_eqb x (get_or xs k 0) (λ e. elim (cases_Bool (nat_lt k i)) [
      | inl t ↦ let early : k < i = grind (arith, nat_tests) in let less = before k early in omega arith
      | inr f ↦ let late : i ≤ k = grind (arith, nat_tests) in let more = behind k late inside in omega arith
    ]))))
