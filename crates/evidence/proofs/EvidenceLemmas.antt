-- Evidence, and the verdict that it is.
use Rattle.std.proofs.Common.{◌≡◌, ◌≢◌, ℕ, List, refl, subst, ap, sym}
use Rattle.dimacs.specs.logic.Cnf.{Cnf}
use Rattle.lrat_text.specs.Proof.{Accepts}
use Rattle.lrat_check.specs.Verdicts.{Right}
use Rattle.lrat_check.specs.declared.verdict.Verdict.{Verdict}
use Rattle.lrat_check.specs.declared.verdict.Verdict.TheVariants.{Nothing, Model, Proof}
use Rattle.frames.specs.declared.answer.Answer.{Answer}
use Rattle.frames.specs.declared.answer.Answer.TheVariants as answers
use Rattle.evidence.specs.Evidence.{BearsOut, answer_in, bytes_in, IsRightEvidence, IsWrongEvidence}

-- the verdict has this answer, and these bytes are its evidence
pub record IsBorneOut (answer : Answer) (bytes : List ℕ) (v : Verdict) : Type 0 where
  pub some : v ≢ Nothing
  pub answer_is : answer_in v ≡ answer
  pub bytes_are : bytes_in v ≡ bytes

pub borne_out : (F : Cnf) (answer : Answer) (bytes : List ℕ) (v : Verdict) → BearsOut F answer bytes v → IsBorneOut answer bytes v
borne_out F answers.Refuted bytes v is = subst (IsBorneOut answers.Refuted bytes) (sym is) (record { some = λ e. cc; answer_is = refl; bytes_are = refl })
borne_out F answers.Assignment bytes v is =
    subst (IsBorneOut answers.Assignment bytes) (sym is.1) (record { some = λ e. cc; answer_is = refl; bytes_are = sym is.2 })

-- the bytes of a right verdict are evidence for it
pub bears_out : (F : Cnf) (answer : Answer) (bytes : List ℕ) (v : Verdict) → IsBorneOut answer bytes v → Right F v → IsRightEvidence F answer bytes v
bears_out F answers.Refuted bytes Nothing is right = absurd (is.some refl)
bears_out F answers.Refuted bytes (Model values) is right = cc
bears_out F answers.Refuted bytes (Proof text) is right = record { bears = ap Proof is.bytes_are; right = right }
bears_out F answers.Assignment bytes Nothing is right = absurd (is.some refl)
bears_out F answers.Assignment bytes (Model values) is right = record { bears = (values, refl, sym is.bytes_are, right.0); right = right }
bears_out F answers.Assignment bytes (Proof text) is right = cc

pub proof_right : (F : Cnf) (text : List ℕ) → Accepts F text → IsRightEvidence F answers.Refuted text (Proof text)
proof_right F text accepts = record { bears = refl; right = accepts }

pub proof_wrong : (F : Cnf) (text : List ℕ) → (Accepts F text → ⊥) → IsWrongEvidence F answers.Refuted text
proof_wrong F text refused v e = refused (subst (Right F) e.bears e.right)
