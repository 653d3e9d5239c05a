-- The lift of a proof in text or binary form: what it has taken and written.
use Rattle.std.specs.Prelude.{◌≡◌, ℕ, List, [], Option, Some, None}
use Rattle.dimacs.specs.logic.Cnf.{Cnf}
use Rattle.icnf.specs.Leaves.{Cube}
use Rattle.leaves.specs.Leaf.{leaf_at}
use Rattle.leaves.specs.LeafLift.{HasTakenProof}
use Rattle.lrat_forms.specs.Pieces.{HasGivenWithin}
use Rattle.lrat_text.specs.Log.{log_top}
use Rattle.text_or_binary.specs.declared.form_lift.FormLift.{FormLift}

-- The lift has taken the bytes `bytes` of a proof of the formula under the cube q, in the text form that they have so far; the bytes
-- `handed` of the log were handed out.
pub record HasTakenFormProof (F : Cnf) (q : Cube) (bytes handed : List ℕ) (l : FormLift) : Type 0 where
  pub text : List ℕ
  pub given : HasGivenWithin (log_top F) l.form bytes text
  pub lifts : HasTakenProof F q text handed l.lift

-- the lift is for the formula under the cube, and has taken no byte; without a cube there is no lift
abbrev pub BeginsFormCube : Cnf → Option Cube → Option FormLift → Type 0
BeginsFormCube F None l = l ≡ None
BeginsFormCube F (Some q) None = ⊥
BeginsFormCube F (Some q) (Some l) = HasTakenFormProof F q [] [] l

-- the lift is for the leaf of this number, from 1, and has taken no byte; if no leaf has the number, there is no lift
abbrev pub BeginsFormLeaf : Cnf → List Cube → ℕ → Option FormLift → Type 0
BeginsFormLeaf F leaves number l = BeginsFormCube F (leaf_at leaves number) l
