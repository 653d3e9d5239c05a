-- What trimming a proof answers, and the state of trimming between two pieces.
use Rattle.std.specs.Prelude.{◌≡◌, ◌⊎◌, ℕ, ◌≤◌, Bool, true, false, List, Result, Ok, Err}
use Rattle.dimacs.specs.logic.Cnf.{Cnf}
use Rattle.lrat_text.specs.Grammar.{LineSpellsWithin}
use Rattle.lrat_text.specs.Log.{additions}
use Rattle.lrat_text.specs.Proof.{Accepts, proof_top}
use Rattle.lrat_text.specs.declared.step.Step.{Step}
use Rattle.lrat_check.specs.ProofFaults.{check_of, no_memory}
use Rattle.lrat_check.specs.Stream
use Rattle.lrat_check.specs.Stream.{CheckProgress, Failed}
use Rattle.lrat_check.specs.declared.line_checker.CheckFault.{CheckFault}
use Rattle.lrat_trim.specs.declared.trimmer.Trimmed.{Trimmed}

-- the text spells steps of a proof of the formula, exactly n of which are additions
abbrev pub HasLemmas : Cnf → ℕ → List ℕ → Type 0
HasLemmas F n text = (steps : List Step) × LineSpellsWithin (proof_top F) text steps × (additions steps ≡ n)

-- t has an accepted proof of F with no more lemmas than `proof`, and the numbers of lemmas of both
pub record IsTrimmed (F : Cnf) (proof : List ℕ) (t : Trimmed) : Type 0 where
  pub accepted : Accepts F t.text
  pub kept : HasLemmas F t.kept t.text
  pub all : HasLemmas F t.all proof
  pub fewer : t.kept ≤ t.all

-- the answer of trimming: an accepted proof is trimmed, and any other text has the fault that checking it gives; or memory was refused
abbrev pub Trims : Cnf → List ℕ → Result Trimmed CheckFault → Type 0
Trims F proof (Ok t) = Accepts F proof × IsTrimmed F proof t
Trims F proof (Err fault) = (fault ≡ no_memory) ⊎ (check_of F proof ≡ Err fault)

-- the state after the pieces so far: the formula, the bytes of the text, and how far they are checked
pub record TrimProgress : Type 0 where
  pub formula : Cnf
  pub text : List ℕ
  pub progress : CheckProgress

-- how far a text is checked; if memory was refused for a piece (`true`), that is its fault
abbrev pub progress_of : Bool → CheckProgress → CheckProgress
progress_of true p = Failed no_memory
progress_of false p = p

-- these bytes of a proof of the formula were taken: they are checked, and a fault is known, or they are kept
pub record HasTaken (F : Cnf) (t : TrimProgress) (bytes : List ℕ) : Type 0 where
  pub formula : t.formula ≡ F
  pub checked : Stream.HasTaken F t.progress bytes
  pub held : ((fault : CheckFault) × (t.progress ≡ Failed fault)) ⊎ (t.text ≡ bytes)
