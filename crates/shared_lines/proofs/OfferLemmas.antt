-- The lines of offers.
use Rattle.std.proofs.Common.{◌≡◌, ℕ, ◌^◌, ◌≤◌, List, [], ◌∷◌, ◌++◌, codes, decimal, sym, ◌∙◌, ap, subst, append_assoc}
use Rattle.lrat_text.specs.Grammar.{SpellsStepWithin}
use Rattle.lrat_text.specs.declared.step.Step.{Step}
use Rattle.lrat_text.specs.declared.step.Step.TheVariants.{Add}
use Rattle.shared_lines.specs.Lines.{Offered, Offers}
use Rattle.shared_lines.specs.Buffers.{offer_held}
use Rattle.shared_lines.specs.inner.Words.{IsWord}
use Rattle.shared_lines.proofs.ByteLemmas.{decimal_is_word, decimal_none, same_number, word_same}
use Rattle.shared_lines.proofs.FieldLemmas.{early}

offer_parts : (time : ℕ) (rest : List ℕ) → decimal time ++ codes " " ++ rest ++ codes " 0" ≡ decimal time ++ 32 ∷ (rest ++ codes " 0")
offer_parts time rest = append_assoc (decimal time ++ codes " ") rest (codes " 0") ∙ append_assoc (decimal time) (codes " ") (rest ++ codes " 0")

pub offer_word : (line word after : List ℕ) (time : ℕ) (rest : List ℕ) → time ≤ 2 ^ 40 → line ≡ word ++ 32 ∷ after → IsWord word → line ≡ decimal time ++ codes " " ++ rest ++ codes " 0"
    → (word ≡ decimal time) × (after ≡ rest ++ codes " 0")
offer_word line word after time rest small cut one is = word_same word (decimal time) after (rest ++ codes " 0") one (decimal_none time (early time small)) (sym cut ∙ is ∙ offer_parts time rest)

-- the offer that the line spells is the one whose parts were read
pub record IsOffered (most : ℕ) (after : List ℕ) (time : ℕ) (x : Offered) : Type 0 where
  pub same : x.time ≡ time
  pub addition : SpellsStepWithin most (after ++ codes " 0") (Add x.number x.clause [] [])

pub only_offer : (most : ℕ) (line after : List ℕ) (time : ℕ) (rest : List ℕ) → time ≤ 2 ^ 40 → after ≡ rest ++ codes " 0" → line ≡ decimal time ++ codes " " ++ rest ++ codes " 0"
    → (x : Offered) → Offers most line x → IsOffered most after time x
only_offer most line after time rest small end is x s =
    let w = offer_word line (decimal time) (rest ++ codes " 0") x.time s.rest s.limit (is ∙ offer_parts time rest) (decimal_is_word time (early time small)) s.splits in
    let text : s.rest ++ codes " 0 0" ≡ after ++ codes " 0" =
    sym (append_assoc s.rest (codes " 0") (codes " 0")) ∙ ap (λ (l : List ℕ). l ++ codes " 0") (sym w.1) ∙ ap (λ (l : List ℕ). l ++ codes " 0") (sym end) in
    record {
      same = same_number x.time time (early x.time s.limit) (early time small) (sym w.0);
      addition = subst (λ (l : List ℕ). SpellsStepWithin most l (Add x.number x.clause [] [])) text s.addition;
    }

pub offer_read : (x : Offered) (time : ℕ) (new : Step) → x.time ≡ time → new ≡ Add x.number x.clause [] [] → offer_held time new ≡ x
offer_read x time new same e = ap (λ (s : Step). offer_held time s) e ∙ ap (λ (t : ℕ). record { time = t; number = x.number; clause = x.clause }) (sym same)
