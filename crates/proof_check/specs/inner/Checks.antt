-- How a check takes a piece of a proof, and the report of the text of a proof.
use Rattle.std.specs.Prelude.{◌≡◌, ◌↔◌, ◌⊎◌, ◌++◌, ℕ, Bool, true, false, List, [], None}
use Rattle.dimacs.specs.logic.Cnf.{Cnf}
use Rattle.dimacs.specs.logic.Limits.{Limits}
use Rattle.dimacs.specs.text.Parser.{parse_within}
use Rattle.dimacs.specs.text.Grammar.{SpellsWithin}
use Rattle.lrat_text.specs.Proof.{Accepts}
use Rattle.lrat_check.specs.Stream as text
use Rattle.proof_check.specs.Stream as binary
use Rattle.proof_check.specs.Reports.{check_text}
use Rattle.proof_check.specs.declared.stage.Stage.{Stage}
use Rattle.proof_check.specs.declared.stage.Stage.TheVariants.{Awaiting, Text, Binary}
use Rattle.reports.specs.declared.report.Report.{Report}

-- `IsBegun F form stage`: a check against the formula F has begun in this form, binary if `form` is true, and has taken no byte
abbrev pub IsBegun : Cnf → Bool → Stage → Type 0
IsBegun F form (Awaiting G) = ⊥
IsBegun F form (Text p) = (form ≡ false) × text.HasTaken F p []
IsBegun F form (Binary p) = (form ≡ true) × binary.HasTaken F p []

-- `IsFed old piece new`: a piece of the proof leads from one stage to another of the same form: if the check had taken some bytes before,
-- it has taken these bytes and the piece after
abbrev pub IsFed : Stage → List ℕ → Stage → Type 0
IsFed (Awaiting F) piece new = new ≡ Awaiting F
IsFed (Text p) piece (Text q) = (F : Cnf) (bytes : List ℕ) → text.HasTaken F p bytes → text.HasTaken F q (bytes ++ piece)
IsFed (Binary p) piece (Binary q) = (F : Cnf) (bytes : List ℕ) → binary.HasTaken F p bytes → binary.HasTaken F q (bytes ++ piece)
IsFed (Text p) piece (Awaiting F) = ⊥
IsFed (Text p) piece (Binary q) = ⊥
IsFed (Binary p) piece (Awaiting F) = ⊥
IsFed (Binary p) piece (Text q) = ⊥

-- the report of `check` for an input within the limits and the text of a proof
pub record IsTextReport (L : Limits) (input proof : List ℕ) (report : Report) : Type 0 where
  pub verified : (report.status ≡ 0) ↔ ((F : Cnf) × SpellsWithin L input F × Accepts F proof)
  pub status : (report.status ≡ 0) ⊎ (report.status ≡ 1)
  pub text : report.stdout.items ≡ check_text (parse_within L input) proof
  pub no_proof : report.proof ≡ None
