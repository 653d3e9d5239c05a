-- The two forms of a proof: the first byte tells which.
use Rattle.std.proofs.Common.{◌≡◌, ℕ, ◌==◌, ◌||◌, Bool, true, false, List, [], ◌∷◌, ◌++◌, ap, ◌∙◌, arith}
use Rattle.std.proofs.lemmas.Bool.{ne_eqb}
use Rattle.dimacs.specs.logic.Cnf.{Cnf}
use Rattle.lrat_text.specs.Grammar.{SpellsStepWithin}
use Rattle.lrat_text.specs.Proof.{Accepts, proof_top}
use Rattle.lrat_text.specs.declared.step.Step.{Step}
use Rattle.lrat_text.specs.declared.step.Step.TheVariants.{Add, Delete}
use Rattle.lrat_text.proofs.FirstByteLemmas.{line_digit}
use Rattle.lrat_text.proofs.NumberLemmas.{IsDigitByte}
use Rattle.lrat_binary.specs.Grammar.{SpellsStepWithin as BinaryStepWithin}
use Rattle.proof_check.specs.BinaryProof.{AcceptsBinary}
use Rattle.proof_check.specs.Forms.{is_letter, is_binary, HasForm}

pub form_more : (form : Bool) (proof more : List ℕ) → HasForm form proof → HasForm form (proof ++ more)
form_more form [] more h = absurd h
form_more form (b ∷ bytes) more h = h

pub form_is : (form : Bool) (proof : List ℕ) → HasForm form proof → is_binary proof ≡ form
form_is form [] h = absurd h
form_is form (b ∷ bytes) h = h

-- ---- a text begins with a digit

no_letter : (b : ℕ) → IsDigitByte b → is_letter b ≡ false
no_letter b h = ap (λ (x : Bool). x || b == 100) (ne_eqb b 97 (λ e. omega (arith, h.1))) ∙ ne_eqb b 100 (λ e. omega (arith, h.1))

line_begins : (most b : ℕ) (bs : List ℕ) (step : Step) → SpellsStepWithin most (b ∷ bs) step → is_letter b ≡ false
line_begins most b bs step h = no_letter b (line_digit most b bs step h)

line_form : (most : ℕ) (line rest : List ℕ) (step : Step) → SpellsStepWithin most line step → is_binary (line ++ 10 ∷ rest) ≡ false
line_form most [] rest step h = absurd (omega (arith, h.trimmed.some))
line_form most (b ∷ bs) rest step h = line_begins most b bs step h

-- an accepted text is not taken for the binary form
pub text_form : (F : Cnf) (proof : List ℕ) → Accepts F proof → is_binary proof ≡ false
text_form F proof ([], spelled, refutes) = absurd refutes
text_form F proof (step ∷ steps, (line, rest, splits, no_lf, spells, more), refutes) = ap is_binary splits ∙ line_form (proof_top F) line rest step spells

-- ---- the binary form begins with a letter

step_form : (most : ℕ) (front rest : List ℕ) (step : Step) → BinaryStepWithin most front step → is_binary (front ++ rest) ≡ true
step_form most [] rest step h = absurd h
step_form most (b ∷ bytes) rest (Add id lits hints groups) h = ap (λ (x : ℕ). is_letter x) h.1
step_form most (b ∷ bytes) rest (Delete ids) h = ap (λ (x : ℕ). is_letter x) h.1

pub binary_form : (F : Cnf) (proof : List ℕ) → AcceptsBinary F proof → is_binary proof ≡ true
binary_form F proof ([], spelled, refutes) = absurd refutes
binary_form F proof (step ∷ steps, (front, rest, splits, spells, more), refutes) = ap is_binary splits ∙ step_form (proof_top F) front rest step spells
