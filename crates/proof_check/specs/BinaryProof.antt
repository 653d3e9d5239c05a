-- The accepted proofs in binary form, and their soundness.
use Rattle.std.specs.Prelude.{ℕ, List, length}
use Rattle.dimacs.specs.logic.Cnf.{Cnf}
use Rattle.dimacs.specs.logic.ClauseMap.{map_of}
use Rattle.lrat_text.specs.Proof.{Refutation, proof_top}
use Rattle.lrat_text.specs.declared.step.Step.{Step}
use Rattle.lrat_binary.specs.Grammar.{SpellsWithin}
use Rattle.lrat_check.specs.Soundness.{IsUnsatisfiable}

-- the bytes spell steps with variables up to the proof's limit, of which a prefix refutes the formula F; the steps after that prefix are
-- free
abbrev pub AcceptsBinary : Cnf → List ℕ → Type 0
AcceptsBinary F bytes = (steps : List Step) × SpellsWithin (proof_top F) bytes steps × Refutation (map_of F) (length F.clauses) steps

-- a formula that has an accepted proof in binary form is unsatisfiable
abbrev pub BinarySoundness : Type 0
BinarySoundness = (F : Cnf) (bytes : List ℕ) → AcceptsBinary F bytes → IsUnsatisfiable F
