-- The text of steps spells them.
use Rattle.std.proofs.Common.{◌≡◌, ℕ, ◌^◌, ◌<◌, Bool, true, cond, List, [], ◌∷◌, ◌++◌, None, refl, sym, ap, subst, ◌∙◌, append_assoc, arith}
use Rattle.std.proofs.lemmas.List.{append-nil}
use Rattle.lrat_text.specs.Grammar.{IsClauseNumber, LineSpellsWithin}
use Rattle.lrat_text.specs.Log.{top_after}
use Rattle.lrat_text.specs.Runs.{text_of}
use Rattle.lrat_text.specs.WrittenLine.{line_text}
use Rattle.lrat_text.specs.declared.step.Step.{Step}
use Rattle.lrat_text.specs.declared.step.Step.TheVariants.{Add, Delete}
use Rattle.lrat_text.proofs.CountingLemmas.{one_list_under}
use Rattle.lrat_text.proofs.LineLemmas.{written_spells_within, written_one_line_within}
use Rattle.lrat_binary.specs.Grammar.{SpellsWithin, SpellsStepWithin}
use Rattle.lrat_binary.specs.Parser.{BetweenStepsWithin, ReadResult, read, steps_within}
use Rattle.lrat_text.specs.Grammar.{IsStepWithin}
use Rattle.lrat_forms.specs.Forms.{is_binary, reading_text, text_form_within, text_in}
use Rattle.lrat_forms.specs.SameSteps.{SpellTheSameWithin}

limits : (most : ℕ) (bytes : List ℕ) (step : Step) → SpellsStepWithin most bytes step → IsStepWithin most step
limits most [] step h = absurd h
limits most (b ∷ bytes) step h = h.0

numbered : (most top : ℕ) (step : Step) → IsClauseNumber top → IsStepWithin most step → IsClauseNumber (top_after top step)
numbered most top (Add id lits hints groups) h is = is.0
numbered most top (Delete ids) h is = h

text_spells : (most : ℕ) → most < 2 ^ 48 → (steps : List Step) (top : ℕ) (bytes : List ℕ) → IsClauseNumber top → SpellsWithin most bytes steps → LineSpellsWithin most (text_of top steps) steps
text_spells most few [] top bytes h none = refl
text_spells most few (step ∷ steps) top bytes h (front, rest, splits, first, later) =
    let is : IsStepWithin most step = limits most front step first in (
      line_text top step,
      text_of (top_after top step) steps,
      append_assoc (line_text top step) (10 ∷ []) (text_of (top_after top step) steps),
      written_one_line_within most few top step h is,
      written_spells_within most few top step h is,
      text_spells most few steps (top_after top step) rest (numbered most top step h is) later,
    )

form_is : (most : ℕ) (bytes : List ℕ) → is_binary bytes ≡ true → text_form_within most bytes ≡ reading_text 1 (steps_within most bytes)
unfolding text_in
form_is most bytes e = ap (λ (x : Bool). cond x (reading_text 1 (read (BetweenStepsWithin most) bytes)) bytes) e

pub spelled_so : (most : ℕ) → most < 2 ^ 48 → ((bytes : List ℕ) (steps : List Step) → SpellsWithin most bytes steps → steps_within most bytes ≡ (steps, None))
    → (bytes : List ℕ) (steps : List Step) → is_binary bytes ≡ true → SpellsWithin most bytes steps → LineSpellsWithin most (text_form_within most bytes) steps
spelled_so most few reads bytes steps e h =
    subst (λ (text : List ℕ). LineSpellsWithin most text steps)
    (sym (form_is most bytes e ∙ ap (reading_text 1) (reads bytes steps h) ∙ append-nil (text_of 1 steps)))
    (text_spells most few steps 1 bytes (omega arith, omega arith) h)

-- ---- limits of both forms
narrow_step : (most other : ℕ) (bytes : List ℕ) (step : Step) → IsStepWithin most step → SpellsStepWithin other bytes step → SpellsStepWithin most bytes step
narrow_step most other [] step within h = absurd h
narrow_step most other (b ∷ bytes) step within (limits, letter, codes) = (within, letter, codes)

narrow : (most other : ℕ) (steps : List Step) (text bytes : List ℕ) → LineSpellsWithin most text steps → SpellsWithin other bytes steps → SpellsWithin most bytes steps
narrow most other [] text bytes h none = none
narrow most other (step ∷ steps) text bytes (line, lines, splits, no_lf, first, later) (front, rest, is, one, more) =
    (front, rest, is, narrow_step most other front step first.limits one, narrow most other steps lines rest later more)

pub one_limit : (most other : ℕ) (text bytes : List ℕ) (steps : List Step) → most < 2 ^ 48 → other < 2 ^ 48 → LineSpellsWithin most text steps → SpellTheSameWithin other text bytes
    → SpellsWithin most bytes steps
one_limit most other text bytes steps few few_other h (others, k, spelled) =
    narrow most other steps text bytes h (subst (λ (ss : List Step). SpellsWithin other bytes ss) (sym (one_list_under most other few few_other text steps others h k)) spelled)
