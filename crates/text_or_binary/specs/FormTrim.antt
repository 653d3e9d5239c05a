-- The trim of a proof in text or binary form: what it has taken.
use Rattle.std.specs.Prelude.{ℕ, List}
use Rattle.dimacs.specs.logic.Cnf.{Cnf}
use Rattle.lrat_forms.specs.Pieces.{HasGivenWithin}
use Rattle.lrat_text.specs.Proof.{proof_top}
use Rattle.lrat_trim.specs.TrimmedProof as of_text
use Rattle.text_or_binary.specs.declared.form_trim.FormTrimming.{FormTrimming}

-- the trimming has taken these bytes of a proof of the formula, in the text form that they have so far
pub record HasTakenForm (F : Cnf) (t : FormTrimming) (bytes : List ℕ) : Type 0 where
  pub text : List ℕ
  pub given : HasGivenWithin (proof_top F) t.form bytes text
  pub taken : of_text.HasTaken F t.trimming text
