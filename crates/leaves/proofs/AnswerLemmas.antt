-- The text of an answer is no log: no step begins with its first byte.
use Rattle.std.proofs.Common.{◌≡◌, inl, inr, ℕ, ◌<◌, ◌≤◌, ◌^◌, Bool, true, false, cond, List, [], ◌∷◌, ◌++◌, refl, sym, ap, subst, ◌∙◌, arith, eqb}
use Rattle.std.specs.Prelude.{◌==◌, decimal}
use Rattle.std.specs.List.{AllByRecursion, filter, onto_first, slice_split}
use Rattle.std.proofs.lemmas.Bool.{true≢false, or_cases, eqb-true, ne_eqb}
use Rattle.std.proofs.lemmas.List.Splits.{slice_split-cons_no}
use Rattle.dimacs.specs.text.Words.{is_some_byte}
use Rattle.lrat_text.specs.Grammar.{IsClauseNumber, IsStepWithin, LineSpellsWithin, SpellsStepWithin, space, step_tokens, tokens}
use Rattle.lrat_text.specs.declared.step.Step.{Step}
use Rattle.lrat_text.specs.declared.step.Step.TheVariants.{Add, Delete}
use Rattle.lrat_text.proofs.NumberLemmas.{IsDigitByte, decimal_digits}
use Rattle.leaves.specs.Join.{is_answer, is_answer_letter}

-- the letters, as numbers
letter_is : (b : ℕ) → is_answer_letter b ≡ true → 58 ≤ b
letter_is b e = elim (or_cases _ (eqb b 118) e) [
  | inl two ↦ elim (or_cases (eqb b 99) (eqb b 115) two) [
    | inl c ↦ (let h = eqb-true b 99 c in omega arith)
    | inr s ↦ (let h = eqb-true b 115 s in omega arith)
  ]
  | inr v ↦ (let h = eqb-true b 118 v in omega arith)
]

first_piece : (p : ℕ → Bool) (text : List ℕ) → (piece : List ℕ) × (pieces : List (List ℕ)) × (slice_split p text ≡ piece ∷ pieces)
first_piece p [] = ([], [], refl)
first_piece p (x ∷ text) = at (p x) refl (first_piece p text)
  where
    at : (b : Bool) → p x ≡ b → (piece : List ℕ) × (pieces : List (List ℕ)) × (slice_split p text ≡ piece ∷ pieces)
        → (piece : List ℕ) × (pieces : List (List ℕ)) × (slice_split p (x ∷ text) ≡ piece ∷ pieces)
    at true e (piece, pieces, is) = ([], slice_split p text, ap (λ b. cond b ([] ∷ slice_split p text) (onto_first x (slice_split p text))) e)
    at false e (piece, pieces, is) = (x ∷ piece, pieces, ap (λ b. cond b ([] ∷ slice_split p text) (onto_first x (slice_split p text))) e ∙ ap (onto_first x) is)

-- the first token of a line that does not begin with a space begins as the line does
first_token : (b : ℕ) (bs : List ℕ) → (b == space) ≡ false → (word : List ℕ) × (words : List (List ℕ)) × (tokens (b ∷ bs) ≡ (b ∷ word) ∷ words)
first_token b bs e =
    let r = first_piece (λ c. c == space) bs in (
      r.0,
      filter is_some_byte r.1,
      ap (filter is_some_byte) (slice_split-cons_no (λ c. c == space) b bs e ∙ ap (onto_first b) r.2),
    )

-- the first token of a step is a number
first_number : (most top : ℕ) (step : Step) → IsClauseNumber top → IsStepWithin most step → (n : ℕ) × (words : List (List ℕ)) × (n < 2 ^ 64) × (step_tokens top step ≡ decimal n ∷ words)
first_number most top (Add id lits hints groups) t h = (id, _, (let u = h.0.1 in omega arith), refl)
first_number most top (Delete ids) t h = (top, _, (let u = t.1 in omega arith), refl)

same_first : (v w : List ℕ) (vs ws : List (List ℕ)) → ◌≡◌ {A = List (List ℕ)} (v ∷ vs) (w ∷ ws) → v ≡ w
same_first v w vs ws e = cc

begins_number : (most b : ℕ) (bs : List ℕ) (top : ℕ) (step : Step) → is_answer_letter b ≡ true → IsClauseNumber top → IsStepWithin most step → tokens (b ∷ bs) ≡ step_tokens top step → ⊥
begins_number most b bs top step letter numbered limits spelled =
    let high : 58 ≤ b = letter_is b letter in
    let t = first_token b bs (ne_eqb b 32 (λ e. omega arith)) in
    let n = first_number most top step numbered limits in
    let same : b ∷ t.0 ≡ decimal n.0 = same_first (b ∷ t.0) (decimal n.0) t.1 n.1 (sym t.2 ∙ spelled ∙ n.3) in
    let digits : AllByRecursion IsDigitByte (b ∷ t.0) = subst (AllByRecursion IsDigitByte) (sym same) (decimal_digits n.0 n.2) in
    let low : b ≤ 57 = digits.0.1 in
    omega arith

same_byte : (b c : ℕ) (bs cs : List ℕ) → ◌≡◌ {A = List ℕ} (b ∷ bs) (c ∷ cs) → b ≡ c
same_byte b c bs cs e = cc

pub answer_is_no_log : (most : ℕ) (text : List ℕ) (steps : List Step) → LineSpellsWithin most text steps → is_answer text ≡ true → ⊥
answer_is_no_log most [] steps h e = true≢false (sym e)
answer_is_no_log most (b ∷ bs) [] h e = let no : ⊥ = cc in no
answer_is_no_log most (b ∷ bs) (step ∷ steps) (line, rest, is, one, spells, more) e = at line is spells
  where
    at : (l : List ℕ) → (b ∷ bs) ≡ l ++ 10 ∷ rest → SpellsStepWithin most l step → ⊥
    at [] f s = (let some = s.trimmed.some in omega arith)
    at (c ∷ l) f s = begins_number most c l s.top step (subst (λ x. is_answer_letter x ≡ true) (same_byte b c bs (l ++ 10 ∷ rest) f) e) s.numbered s.limits s.spelled
