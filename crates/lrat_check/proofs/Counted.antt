-- How many clauses are live.
use Rattle.std.proofs.Common.{◌≡◌, ℕ, ◌+◌, ◌-◌, ◌≤◌, zero, suc, Bool, true, false, Option, Some, None, option_map, cond, refl, sym, ◌∙◌, ap, arith}
use Rattle.std.specs.Option.{is_some}
use Rattle.std.specs.Ordering.{nat_cmp}
use Rattle.std.specs.FinMap.{get, insert, remove, empty, len, empty_of_len, get-empty, len-empty, len-insert, len-remove}
use Rattle.std.proofs.lemmas.Cmp.{nat_cmp_total}
use Rattle.std.proofs.lemmas.Bool.{true≢false}
use Rattle.dimacs.specs.logic.Literal.{Clause}
use Rattle.dimacs.specs.logic.ClauseMap.{ClauseMap}

pub counted_none : (M : ClauseMap) → M ≡ empty → 0 ≡ len M
counted_none M is = sym (ap (λ (m : ClauseMap). len m) is ∙ len-empty nat_cmp Clause)

-- one clause more, of a number that was not live
pub counted_new : (M M' : ClauseMap) (id : ℕ) (C : Clause) (n : ℕ) → n ≡ len M → M' ≡ insert M id C → is_some (get M id) ≡ false → n + 1 ≡ len M'
counted_new M M' id C n counted is new =
    let more : len (insert M id C) ≡ len M + 1 = len-insert nat_cmp_total M id C ∙ ap (λ b. cond b (len M) (len M + 1)) new in
    let now : len M' ≡ len (insert M id C) = ap (λ (m : ClauseMap). len m) is in
    omega (arith, more, now, counted)

-- a clause in the place of another
pub counted_over : (M M' : ClauseMap) (id : ℕ) (C : Clause) (n : ℕ) → n ≡ len M → M' ≡ insert M id C → is_some (get M id) ≡ true → n ≡ len M'
counted_over M M' id C n counted is old =
    let same : len (insert M id C) ≡ len M = len-insert nat_cmp_total M id C ∙ ap (λ b. cond b (len M) (len M + 1)) old in
    let now : len M' ≡ len (insert M id C) = ap (λ (m : ClauseMap). len m) is in
    omega (arith, same, now, counted)

pub counted_remove : (M M' : ClauseMap) (id : ℕ) (n m : ℕ) → n ≡ len M → M' ≡ remove M id → is_some (get M id) ≡ true → m ≡ n - 1 → m ≡ len M'
counted_remove M M' id n m counted is live less =
    let fewer : len (remove M id) ≡ len M - 1 = len-remove nat_cmp_total M id ∙ ap (λ b. cond b (len M - 1) (len M)) live in
    let now : len M' ≡ len (remove M id) = ap (λ (m : ClauseMap). len m) is in
    omega (arith, fewer, now, counted, less)

-- nothing goes out if nothing is live
pub counted_kept : (M M' : ClauseMap) (id : ℕ) (n : ℕ) → n ≡ len M → M' ≡ remove M id → is_some (get M id) ≡ false → n ≡ len M'
counted_kept M M' id n counted is none =
    let same : len (remove M id) ≡ len M = len-remove nat_cmp_total M id ∙ ap (λ b. cond b (len M - 1) (len M)) none in
    let now : len M' ≡ len (remove M id) = ap (λ (m : ClauseMap). len m) is in
    omega (arith, same, now, counted)

-- a map that has a clause is not empty
pub some_counted : (M : ClauseMap) (id : ℕ) → is_some (get M id) ≡ true → 1 ≤ len M
some_counted M id live = at (len M) refl
  where
    at : (n : ℕ) → len M ≡ n → 1 ≤ n
    at zero e = absurd (true≢false (sym live ∙ ap (λ (N : ClauseMap). is_some (get N id)) (empty_of_len M e) ∙ ap is_some (get-empty nat_cmp id)))
    at (suc n) e = omega arith

-- what a call finds is live
pub was_live : {A : Type 0} (f : A → Clause) (found : Option A) (o : Option Clause) (b : Bool) → option_map f found ≡ o → b ≡ is_some found → is_some o ≡ b
was_live f None o b is e = sym (e ∙ ap is_some is)
was_live f (Some x) o b is e = sym (e ∙ ap is_some is)
