-- A check of a proof that comes in pieces, in the form that its first byte tells.
use Rattle.std.specs.Prelude.{◌≡◌, ◌↔◌, ◌⊎◌, ℕ, Bool, true, false, List, [], Result, Ok, Err, None}
use Rattle.dimacs.specs.logic.Cnf.{Cnf}
use Rattle.dimacs.specs.logic.Limits.{Limits}
use Rattle.dimacs.specs.text.Parser.{no_memory, parse_within}
use Rattle.dimacs.specs.text.Rows.{Fails}
use Rattle.dimacs.specs.text.Grammar.{SpellsWithin}
use Rattle.dimacs.specs.declared.fault.DimacsFault.{DimacsFault}
use Rattle.lrat_text.specs.Proof.{Accepts}
use Rattle.lrat_check.specs.Stream as text
use Rattle.proof_check.specs.BinaryProof.{AcceptsBinary}
use Rattle.proof_check.specs.Stream as binary
use Rattle.proof_check.specs.Forms.{HasForm}
use Rattle.proof_check.specs.Reports.{proof_text}
use Rattle.proof_check.specs.declared.stage.Stage.{Stage}
use Rattle.proof_check.specs.declared.stage.Stage.TheVariants.{Awaiting, Text, Binary}
use Rattle.reports.specs.declared.report.Report.{Report}

-- `Reaches F stage proof`: the stage is that of a check against the formula F that has taken these bytes of the proof: none, or some in the
-- form that the first one tells
abbrev pub Reaches : Cnf → Stage → List ℕ → Type 0
Reaches F (Awaiting G) proof = (G ≡ F) × (proof ≡ [])
Reaches F (Text p) proof = HasForm false proof × text.HasTaken F p proof
Reaches F (Binary p) proof = HasForm true proof × binary.HasTaken F p proof

-- `HasTaken L input state proof`: the state is that of a check against this input, read within L, that has taken these bytes of the proof.
-- It holds how far the proof was checked, or why there is no check: the input's fault, or want of memory.
abbrev pub HasTaken : Limits → List ℕ → Result Stage DimacsFault → List ℕ → Type 0
HasTaken L input (Ok stage) proof = (F : Cnf) × SpellsWithin L input F × Reaches F stage proof
HasTaken L input (Err fault) proof = Fails no_memory fault (parse_within L input)

-- the check of this stage has met a fault, of the proof or of memory
abbrev pub has_met : Stage → Bool
has_met (Awaiting F) = false
has_met (Text p) = text.has_failed p
has_met (Binary p) = binary.has_failed p

-- the check in this state has a fault, of the input, of the proof or of memory
abbrev pub has_fault : Result Stage DimacsFault → Bool
has_fault (Ok stage) = has_met stage
has_fault (Err fault) = true

-- the stage keeps no text of the proof, except the line that has begun, and no bytes of its binary form
abbrev pub IsShort : Stage → Type 0
IsShort (Awaiting F) = Unit {0}
IsShort (Text p) = text.IsWithinLine p
IsShort (Binary p) = Unit {0}

-- the check in this state keeps no text of the proof, except the line that has begun, and no bytes of its binary form
abbrev pub KeepsNoLine : Result Stage DimacsFault → Type 0
KeepsNoLine (Ok stage) = IsShort stage
KeepsNoLine (Err fault) = Unit {0}

-- `IsProofOf F proof`: the bytes spell, in one of the two forms, steps that the definition of an accepted proof of F accepts
abbrev pub IsProofOf : Cnf → List ℕ → Type 0
IsProofOf F proof = Accepts F proof ⊎ AcceptsBinary F proof

-- the report of `check` for an input within L and a proof in either form
pub record IsCheckReport (L : Limits) (input proof : List ℕ) (report : Report) : Type 0 where
  -- status 0 if and only if the input spells a formula and the proof is accepted against it
  pub verified : (report.status ≡ 0) ↔ ((F : Cnf) × SpellsWithin L input F × IsProofOf F proof)
  pub status : (report.status ≡ 0) ⊎ (report.status ≡ 1)
  -- which lines are printed, and so which fault, in which line or step
  pub text : report.stdout.items ≡ proof_text (parse_within L input) proof
  -- no proof is handed out
  pub no_proof : report.proof ≡ None
