-- What `lift` tells of the files of an input, cubes and a proof, and what it writes.
use Rattle.std.specs.Prelude.{◌≡◌, ◌-◌, ℕ, Bool, true, false, List, Option, Some, None, Err}
use Rattle.commands.specs.declared.lift.LiftFiles.{LiftFiles}
use Rattle.commands.specs.declared.lift.Lifted.{Lifted}
use Rattle.commands.specs.declared.lift.Lifted.TheVariants.{Leaf, All, Block}
use Rattle.dimacs.specs.logic.Cnf.{Cnf}
use Rattle.icnf.specs.Leaves.{Cube}
use Rattle.leaves.specs.BlockLift.{PrintsBlock, block_of}
use Rattle.leaves.specs.Leaf.{Prints, leaf_at, leaf_of, no_leaf_text}
use Rattle.leaves.specs.LeafLift.{lifted_text, proof_fault_text, proof_step_fault_text}
use Rattle.lidrup.specs.CubeLog.{ComesTo}
use Rattle.lidrup.specs.Lidrup.{LidrupState, lidrup_of}
use Rattle.lrat_check.specs.declared.line_checker.CheckFault.{CheckFault}
use Rattle.lrat_forms.specs.Forms.{is_binary, text_form_within}
use Rattle.lrat_text.specs.Log.{Closes, log_top}
use Rattle.proof_lift.specs.Leaves.{IsRefutation}
use Rattle.proof_lift.specs.Stream.{IsFaultOf}
use Rattle.reports.specs.declared.report.Report.{Report}

-- what is printed of a fault of a proof: at a line, or in binary form at a step
abbrev pub fault_lines : Bool → CheckFault → List ℕ
fault_lines true fault = proof_step_fault_text fault.line fault.number
fault_lines false fault = proof_fault_text fault.line fault.number

-- What comes of a proof for the leaf of this cube and number. A log over the formula that closes the leaf is kept, and then the status is
-- 0; or the first fault of the proof is told, and nothing is kept: no refutation by reverse unit propagation alone has one.
pub data LiftsLeaf (keeps : List ℕ → Type 0) (left : Type 0) (F : Cnf) (q : Cube) (leaf : ℕ) (proof : List ℕ) (r : Report) : Type 0 where
  lifts : (log : List ℕ) → Closes F q log → keeps log → Prints 0 (lifted_text leaf) r → LiftsLeaf keeps left F q leaf proof r
  refuses : (fault : CheckFault) → IsFaultOf F q (text_form_within (log_top F) proof) fault → ¬ (IsRefutation (leaf_of q F) (text_form_within (log_top F) proof)) → left
      → Prints 1 (fault_lines (is_binary proof) fault) r → LiftsLeaf keeps left F q leaf proof r

-- What comes of a proof for the leaf of this number, which has this cube; or there is no such leaf, which is told, and nothing is kept. The
-- positions are: that a log is kept, that nothing is kept, formula, the leaf's cube, the leaf's number, the proof, the report.
abbrev pub LiftsAt : (List ℕ → Type 0) → Type 0 → Cnf → Option Cube → ℕ → List ℕ → Report → Type 0
LiftsAt keeps left F None leaf proof r = left × Prints 1 no_leaf_text r
LiftsAt keeps left F (Some q) leaf proof r = LiftsLeaf keeps left F q leaf proof r

-- What comes of a LIDRUP text for leaves that have these cubes, of which the first has the index `place` in the tree, from 0. The log that
-- the text comes to is kept, and it is told which of the leaves it closes; or the first fault of the text is told, and nothing is kept.
pub data LiftsEach (keeps : List ℕ → Type 0) (left : Type 0) (F : Cnf) (place : ℕ) (cubes : List Cube) (text : List ℕ) (r : Report) : Type 0 where
  lifts_all : (log : List ℕ) (s : LidrupState) → ComesTo F text log s → PrintsBlock F place cubes text log r → keeps log → LiftsEach keeps left F place cubes text r
  refuses_all : (fault : CheckFault) → lidrup_of F text ≡ Err fault → left → Prints 1 (fault_lines false fault) r → LiftsEach keeps left F place cubes text r

-- What comes of a LIDRUP text for leaves that have these cubes; or there are no such leaves, which is told, and nothing is kept. The
-- positions are: that a log is kept, that nothing is kept, formula, the index of the first leaf from 0, the leaves' cubes, the text, the
-- report.
abbrev pub LiftsBlock : (List ℕ → Type 0) → Type 0 → Cnf → ℕ → Option (List Cube) → List ℕ → Report → Type 0
LiftsBlock keeps left F place None text r = left × Prints 1 no_leaf_text r
LiftsBlock keeps left F place (Some cubes) text r = LiftsEach keeps left F place cubes text r

-- What comes of a proof for the leaf of a number, or of a LIDRUP text for all leaves, or for those from one number to another. The
-- positions are: that a log is kept, that nothing is kept, formula, the cubes of all leaves, which leaves, the proof or text, the report.
abbrev pub LiftsTree : (List ℕ → Type 0) → Type 0 → Cnf → List Cube → Lifted → List ℕ → Report → Type 0
LiftsTree keeps left F cubes (Leaf leaf) proof r = LiftsAt keeps left F (leaf_at cubes leaf) leaf proof r
LiftsTree keeps left F cubes All proof r = LiftsEach keeps left F 0 cubes proof r
LiftsTree keeps left F cubes (Block first last) proof r = LiftsBlock keeps left F (first - 1) (block_of cubes first last) proof r

-- the file of the log is none of the three that are read
abbrev pub IsApart : {D : Type 0} → (D → List ℕ → List ℕ → Type 0) → D → LiftFiles → Type 0
IsApart apart disk files = apart disk files.log.path.now files.input.now × apart disk files.log.path.now files.cubes.now × apart disk files.log.path.now files.proof.now
