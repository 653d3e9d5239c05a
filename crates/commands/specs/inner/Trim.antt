-- The states of a proof that comes in pieces, and is trimmed.
use Rattle.std.specs.Prelude.{◌≡◌, ◌⊎◌, ◌++◌, ℕ, Bool, List, Result, Ok, Err}
use Rattle.commands.specs.declared.trim.Faulty.{Faulty}
use Rattle.commands.specs.declared.trim.TrimText.{TrimText}
use Rattle.commands.specs.declared.trim.TrimText.TheVariants.{Right, Refused}
use Rattle.dimacs.specs.logic.Cnf.{Cnf}
use Rattle.text_or_binary.specs.FormTrim.{HasTakenForm}
use Rattle.text_or_binary.specs.declared.form_trim.FormTrimming.{FormTrimming}
use Rattle.lrat_check.specs.ProofFaults.{check_of, no_memory}
use Rattle.lrat_forms.specs.Forms.{is_binary, text_form_within}
use Rattle.lrat_text.specs.Proof.{proof_top}

-- whatever bytes follow these ones of a proof, this is its first fault, and this its form; or memory ran out
abbrev pub IsFaulty : Cnf → List ℕ → Faulty → Type 0
IsFaulty F bytes f = (f.fault ≡ no_memory) ⊎ ((more : List ℕ) → (check_of F (text_form_within (proof_top F) (bytes ++ more)) ≡ Err f.fault) × (is_binary (bytes ++ more) ≡ f.is_binary))

-- what comes of a piece: the trimming has taken all bytes so far, or they have this first fault
abbrev pub IsTaken : Cnf → List ℕ → FormTrimming → Result (Unit {0}) Faulty → Type 0
IsTaken F bytes t (Ok u) = HasTakenForm F t bytes
IsTaken F bytes t (Err f) = IsFaulty F bytes f

-- the state of a proof of which these bytes came: the trimming has taken them, or they have this first fault
abbrev pub IsTrimming : Cnf → List ℕ → TrimText → Type 0
IsTrimming F bytes (Right t) = HasTakenForm F t bytes
IsTrimming F bytes (Refused f) = IsFaulty F bytes f
