-- The lift of another solver's proof of the formula of a leaf: the bytes that it has read and written, and its report.
use Rattle.std.specs.Prelude.{◌≡◌, ℕ, List, [], ◌++◌, Option, Some, None, Result, Ok, Err, codes, decimal}
use Rattle.std.specs.Global.{Vec}
use Rattle.dimacs.specs.logic.Cnf.{Cnf, IsFormula}
use Rattle.icnf.specs.Leaves.{Cube}
use Rattle.leaves.specs.Leaf.{Prints, leaf_at, no_leaf_text}
use Rattle.leaves.specs.declared.leaf_lift.Lift.{Lift}
use Rattle.leaves.specs.declared.leaf_lift.LiftOutcome.{LiftOutcome}
use Rattle.leaves.specs.declared.leaf_lift.LiftOutcome.TheVariants.{NoLeaf, Lifted, Refused, RefusedStep}
use Rattle.lrat_check.specs.ProofFaults.{no_memory}
use Rattle.lrat_check.specs.declared.line_checker.CheckFault.{CheckFault}
use Rattle.proof_lift.specs.Leaves.{IsCube}
use Rattle.proof_lift.specs.Stream.{HasTaken}
use Rattle.reports.specs.Faults.{fault_text, step_fault_text}
use Rattle.reports.specs.declared.report.Report.{Report}

-- formula, cube of the leaf, `bytes` read, `handed` bytes of the log that are already handed out, the lift: the lift has read the bytes of
-- a proof of the formula under the cube; the whole log so far is `handed` and then the bytes that the lift still has
pub record HasTakenProof (F : Cnf) (q : Cube) (bytes handed : List ℕ) (l : Lift) : Type 0 where
  pub formula : IsFormula F
  pub cube : IsCube F q
  pub taken : HasTaken F q l.lifter bytes (handed ++ l.out.items)

-- a lift that has read some bytes has, after the call, read these bytes and then the piece; the bytes handed out are unchanged
abbrev pub TakesProofPiece : List ℕ → Lift → Lift → Type 0
TakesProofPiece piece old new = (F : Cnf) (q : Cube) (bytes handed : List ℕ) → HasTakenProof F q bytes handed old → HasTakenProof F q (bytes ++ piece) handed new

-- formula, cube of the leaf, the answer: if there is such a leaf, the answer is a lift that has read no byte; else it is None
abbrev pub BeginsCube : Cnf → Option Cube → Option Lift → Type 0
BeginsCube F None l = l ≡ None
BeginsCube F (Some q) None = ⊥
BeginsCube F (Some q) (Some l) = HasTakenProof F q [] [] l

-- formula, cubes of the tree, number of the leaf (from 1), the answer: if there is such a leaf, the answer is a lift for it that has read
-- no byte; else it is None
abbrev pub BeginsLeaf : Cnf → List Cube → ℕ → Option Lift → Type 0
BeginsLeaf F leaves number l = BeginsCube F (leaf_at leaves number) l

-- the lift succeeds, or memory is refused
abbrev pub EndsLifted : Result (Vec ℕ) CheckFault → Type 0
EndsLifted (Ok rest) = Unit {0}
EndsLifted (Err fault) = fault ≡ no_memory

-- what is printed if the leaf of this number, from 1, is lifted
abbrev pub lifted_text : ℕ → List ℕ
lifted_text number = codes "c leaf " ++ decimal number ++ codes " lifted\n"

-- what is printed if the proof's first fault has this number, in this line, from 1
abbrev pub proof_fault_text : ℕ → ℕ → List ℕ
proof_fault_text line number = codes "c proof " ++ fault_text line number

-- what is printed if a binary proof's first fault has this number, in this step, from 1
abbrev pub proof_step_fault_text : ℕ → ℕ → List ℕ
proof_step_fault_text step number = codes "c proof " ++ step_fault_text step number

-- the report of the leaf of this number, from 1, by the outcome of its lift: status 0 if it is lifted, and else 1
abbrev pub PrintsLift : ℕ → LiftOutcome → Report → Type 0
PrintsLift leaf NoLeaf r = Prints 1 no_leaf_text r
PrintsLift leaf Lifted r = Prints 0 (lifted_text leaf) r
PrintsLift leaf (Refused line number) r = Prints 1 (proof_fault_text line number) r
PrintsLift leaf (RefusedStep step number) r = Prints 1 (proof_step_fault_text step number) r
