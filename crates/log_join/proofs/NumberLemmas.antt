-- The new numbers of a log's clauses.
use Rattle.std.proofs.Common.{◌≡◌, ◌∙◌, ℕ, ◌+◌, ◌^◌, ◌<◌, ◌≤◌, List, [], ◌∷◌, ◌++◌, length, map, take, get_or, ap, subst, sym, arith}
use Rattle.std.specs.List.{All}
use Rattle.std.proofs.lemmas.Bool.Decides.{nat_tests}
use Rattle.std.proofs.lemmas.List.{length-map, get_or-map, map_more}
use Rattle.std.proofs.lemmas.List.Elements.{All-push}
use Rattle.lrat_text.specs.Grammar.{IsClauseNumber}
use Rattle.proof_join.specs.RenumberedSteps.{behind}

pub number_over : (b t : ℕ) (ns : List ℕ) (i : ℕ) → i < length ns → ¬ (behind b t (get_or ns i 0) < 2 ^ 48) → ¬ (All IsClauseNumber (map (behind b t) ns))
number_over b t ns i below over fit =
    let here : IsClauseNumber (get_or (map (behind b t) ns) i 0) = fit i 0 (omega (arith, length-map ns (behind b t))) in
    over (subst IsClauseNumber (get_or-map (behind b t) ns i 0 0 below) here).1

-- one number more is moved
pub moved_more : (b t : ℕ) (ns : List ℕ) (i moved : ℕ) (items new : List ℕ) → i < length ns → items ≡ map (behind b t) (take i ns) → new ≡ items ++ moved ∷ []
    → moved ≡ behind b t (get_or ns i 0) → new ≡ map (behind b t) (take (i + 1) ns)
moved_more b t ns i moved items new at so_far pushed is =
    pushed ∙ (ap (λ (xs : List ℕ). xs ++ moved ∷ []) so_far ∙ (ap (λ (m : ℕ). map (behind b t) (take i ns) ++ m ∷ []) is ∙ sym (map_more (behind b t) ns i 0 at)))

some_behind : (b t n : ℕ) → 1 ≤ n → 1 ≤ behind b t n
some_behind b t n some = grind (arith, nat_tests)

pub within_more : (b t n moved : ℕ) (items new : List ℕ) → All IsClauseNumber items → new ≡ items ++ moved ∷ [] → moved ≡ behind b t n → moved < 2 ^ 48 → 1 ≤ n
    → All IsClauseNumber new
within_more b t n moved items new so_far pushed is below some =
    let first : 1 ≤ moved = subst (λ (m : ℕ). 1 ≤ m) (sym is) (some_behind b t n some) in
    subst (All IsClauseNumber) (sym pushed) (All-push IsClauseNumber items moved so_far (first, below))
