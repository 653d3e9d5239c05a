-- A line begins with a digit.
use Rattle.std.proofs.Common.{◌≡◌, ℕ, ◌<◌, ◌^◌, ◌==◌, Bool, false, cond, List, [], ◌∷◌, sym, ap, subst, ◌∙◌, arith, decimal}
use Rattle.std.specs.List.{AllByRecursion, filter, slice_split, onto_first}
use Rattle.std.proofs.lemmas.Bool.{ne_eqb}
use Rattle.dimacs.specs.text.Words.{is_some_byte}
use Rattle.lrat_text.specs.Grammar.{SpellsStepWithin, tokens}
use Rattle.lrat_text.specs.declared.step.Step.{Step}
use Rattle.lrat_text.specs.declared.step.Step.TheVariants.{Add, Delete}
use Rattle.lrat_text.proofs.NumberLemmas.{IsDigitByte, decimal_digits}

by_parts : (b : ℕ) (parts : List (List ℕ)) (w : List ℕ) (ws : List (List ℕ)) → filter is_some_byte (onto_first b parts) ≡ w ∷ ws → (rest : List ℕ) × (w ≡ b ∷ rest)
by_parts b [] w ws e = ([], (let h : w ≡ b ∷ [] = cc in h))
by_parts b (part ∷ parts) w ws e = (part, (let h : w ≡ b ∷ part = cc in h))

-- the first token of a line begins with its first byte
first_token : (b : ℕ) (bs : List ℕ) (w : List ℕ) (ws : List (List ℕ)) → (b == 32) ≡ false → tokens (b ∷ bs) ≡ w ∷ ws → (rest : List ℕ) × (w ≡ b ∷ rest)
first_token b bs w ws e is =
    by_parts b (slice_split (λ x. x == 32) bs) w ws
    (sym (ap (λ (t : Bool). filter is_some_byte (cond t ([] ∷ slice_split (λ x. x == 32) bs) (onto_first b (slice_split (λ x. x == 32) bs)))) e) ∙ is)

digit_first : (n b : ℕ) (rest : List ℕ) → n < 2 ^ 48 → decimal n ≡ b ∷ rest → IsDigitByte b
digit_first n b rest small e = let all : AllByRecursion IsDigitByte (b ∷ rest) = subst (AllByRecursion IsDigitByte) e (decimal_digits n (omega (arith, small))) in all.0

pub line_digit : (most b : ℕ) (bs : List ℕ) (step : Step) → SpellsStepWithin most (b ∷ bs) step → IsDigitByte b
line_digit most b bs (Add id lits hints groups) h =
    let r = first_token b bs (decimal id) _ (ne_eqb b 32 h.trimmed.first) h.spelled in
    digit_first id b r.0 h.limits.0.1 r.1
line_digit most b bs (Delete ids) h =
    let r = first_token b bs (decimal h.top) _ (ne_eqb b 32 h.trimmed.first) h.spelled in
    digit_first h.top b r.0 h.numbered.1 r.1
