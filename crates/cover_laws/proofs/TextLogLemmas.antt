-- A log that is text is not read as binary.
use Rattle.std.proofs.Common.{◌≡◌, ℕ, ◌==◌, ◌||◌, Bool, false, cond, List, [], ◌∷◌, ◌++◌, map, sym, ap, subst, ◌∙◌, arith}
use Rattle.std.specs.List.{Contains}
use Rattle.std.proofs.lemmas.Bool.{ne_eqb}
use Rattle.dimacs.specs.logic.Cnf.{Cnf}
use Rattle.icnf.specs.Leaves.{Cube}
use Rattle.leaves.specs.Join.{AreClosed}
use Rattle.leaves.proofs.ClosingLemmas.{contains_map}
use Rattle.lrat_binary.specs.Parser.{steps_within}
use Rattle.lrat_forms.specs.Forms.{is_binary, is_letter, reading_text, text_form_within, text_in}
use Rattle.lrat_text.specs.Grammar.{LineSpellsWithin, SpellsStepWithin}
use Rattle.lrat_text.specs.Log.{log_top}
use Rattle.lrat_text.specs.declared.step.Step.{Step}
use Rattle.lrat_text.proofs.FirstByteLemmas.{line_digit}
use Rattle.lrat_text.proofs.NumberLemmas.{IsDigitByte}
use Rattle.receipts.specs.LogReceipt.{IsClosedByLog}

no_letter : (b : ℕ) → IsDigitByte b → is_letter b ≡ false
no_letter b h = ap (λ (x : Bool). x || b == 100) (ne_eqb b 97 (λ e. omega (arith, h.1))) ∙ ne_eqb b 100 (λ e. omega (arith, h.1))

line_begins : (most b : ℕ) (bs : List ℕ) (step : Step) → SpellsStepWithin most (b ∷ bs) step → is_letter b ≡ false
line_begins most b bs step h = no_letter b (line_digit most b bs step h)

line_form : (most : ℕ) (line rest : List ℕ) (step : Step) → SpellsStepWithin most line step → is_binary (line ++ 10 ∷ rest) ≡ false
line_form most [] rest step h = absurd (omega (arith, h.trimmed.some))
line_form most (b ∷ bs) rest step h = line_begins most b bs step h

not_binary : (most : ℕ) (text : List ℕ) (steps : List Step) → LineSpellsWithin most text steps → is_binary text ≡ false
not_binary most text [] h = ap is_binary h
not_binary most text (step ∷ steps) (line, rest, splits, no_lf, spells, more) = ap is_binary splits ∙ line_form most line rest step spells

-- so its text form is the text itself
form_same : (most : ℕ) (text : List ℕ) (steps : List Step) → LineSpellsWithin most text steps → text_form_within most text ≡ text
unfolding text_in
form_same most text steps h = ap (λ (x : Bool). cond x (reading_text 1 (steps_within most text)) text) (not_binary most text steps h)

pub joined : (F : Cnf) (cubes : List Cube) (files : List (List ℕ)) → ((q : Cube) → Contains cubes q → IsClosedByLog F files q) → AreClosed F cubes (map (text_form_within (log_top F)) files)
joined F cubes files closed q i =
    let h = closed q i in
    let form : List ℕ → List ℕ = text_form_within (log_top F) in
    let same = form_same (log_top F) h.0 h.1 h.3 in
    (form h.0, contains_map form files h.0 h.2, record { steps = h.1; spells = subst (λ (t : List ℕ). LineSpellsWithin (log_top F) t h.1) (sym same) h.3; is_log = h.4; closes = h.5 })
