-- The states of a lift of another solver's proof, which comes in pieces.
use Rattle.std.specs.Prelude.{◌≡◌, ◌++◌, ℕ, false, List, [], Err, refl}
use Rattle.std.proofs.Common.{◌∙◌}
use Rattle.commands.specs.Lift.{fault_lines}
use Rattle.commands.specs.declared.lift.LeafLift.{LeafLift}
use Rattle.commands.specs.declared.filter.Ending.{Ending}
use Rattle.commands.specs.declared.filter.Ending.TheVariants.{Kept, Dropped}
use Rattle.commands.specs.inner.Transfer.{Moves, moves_more, moves_nothing}
use Rattle.dimacs.specs.logic.Cnf.{Cnf}
use Rattle.text_or_binary.specs.FormLift.{HasTakenFormProof}
use Rattle.icnf.specs.Leaves.{Cube}
use Rattle.leaves.specs.BlockLift.{HasTakenBlock, PrintsBlock}
use Rattle.leaves.specs.Leaf.{Prints, leaf_of}
use Rattle.leaves.specs.LeafLift.{lifted_text}
use Rattle.leaves.specs.declared.block_lift.BlockLift.{BlockLift}
use Rattle.lidrup.specs.CubeLog.{ComesTo}
use Rattle.lidrup.specs.Lidrup.{lidrup_of}
use Rattle.lidrup.specs.View.{state_of}
use Rattle.lrat_check.specs.declared.line_checker.CheckFault.{CheckFault}
use Rattle.lrat_forms.specs.Forms.{is_binary, text_form_within}
use Rattle.lrat_text.specs.Log.{Closes, log_top}
use Rattle.proof_lift.specs.Leaves.{IsRefutation}
use Rattle.proof_lift.specs.Stream.{IsFaultOf}
use Rattle.reports.specs.declared.report.Report.{Report}

-- ---- the proof of a leaf
-- the lift of a leaf's proof has taken these bytes of a proof of the formula under the cube, and handed out the bytes `handed`
abbrev pub LiftsSo : Cnf → Cube → List ℕ → List ℕ → LeafLift → Type 0
LiftsSo F q bytes handed l = HasTakenFormProof F q bytes handed l.lift

-- from `old` to `new` the lift of a leaf's proof took these bytes and handed out the bytes `out`; the number of the leaf stays
abbrev pub leaf_moves : LeafLift → LeafLift → List ℕ → List ℕ → Type 0
leaf_moves old new bytes out = (new.leaf ≡ old.leaf) × ((F : Cnf) (q : Cube) → Moves (LiftsSo F q) old new bytes out)

-- a lift of a leaf's proof that stays took nothing and handed out nothing
pub leaf_nothing : (s : LeafLift) → leaf_moves s s [] []
leaf_nothing s = (refl, λ F q. moves_nothing (LiftsSo F q) s)

-- two moves of the lift of a leaf's proof are one move, of the bytes of both
pub leaf_more : (a b c : LeafLift) (xs ys us vs : List ℕ) → leaf_moves a b xs us → leaf_moves b c ys vs → leaf_moves a c (xs ++ ys) (us ++ vs)
leaf_more a b c xs ys us vs h k = (k.0 ∙ h.0, λ F q. moves_more (LiftsSo F q) a b c xs ys us vs (h.1 F q) (k.1 F q))

-- the report tells the first fault of the proof, which is no refutation by reverse unit propagation alone
pub record IsRefused (F : Cnf) (q : Cube) (proof : List ℕ) (r : Report) : Type 0 where
  pub fault : CheckFault
  pub first : IsFaultOf F q (text_form_within (log_top F) proof) fault
  pub wrong : ¬ (IsRefutation (leaf_of q F) (text_form_within (log_top F) proof))
  pub prints : Prints 1 (fault_lines (is_binary proof) fault) r

-- how the lift of a leaf's proof may end: the bytes handed out and the last ones are a log that closes the leaf; or the first fault of the
-- proof is told
abbrev pub EndsLeaf : LeafLift → Ending → Type 0
EndsLeaf l (Kept rest r) = ((F : Cnf) (q : Cube) (proof handed : List ℕ) → LiftsSo F q proof handed l → Closes F q (handed ++ rest.items)) × Prints 0 (lifted_text l.leaf) r
EndsLeaf l (Dropped r) = (F : Cnf) (q : Cube) (proof handed : List ℕ) → LiftsSo F q proof handed l → IsRefused F q proof r

-- ---- a text for several leaves
-- from `old` to `new` the lift of a LIDRUP text took these bytes and handed out the bytes `out`
abbrev pub each_moves : BlockLift → BlockLift → List ℕ → List ℕ → Type 0
each_moves old new bytes out = (F : Cnf) (place : ℕ) (cubes : List Cube) → Moves (HasTakenBlock F place cubes) old new bytes out

-- a lift of a LIDRUP text that stays took nothing and handed out nothing
pub each_nothing : (s : BlockLift) → each_moves s s [] []
each_nothing s = λ F place cubes. moves_nothing (HasTakenBlock F place cubes) s

-- two moves of the lift of a LIDRUP text are one move, of the bytes of both
pub each_more : (a b c : BlockLift) (xs ys us vs : List ℕ) → each_moves a b xs us → each_moves b c ys vs → each_moves a c (xs ++ ys) (us ++ vs)
each_more a b c xs ys us vs h k = λ F place cubes. moves_more (HasTakenBlock F place cubes) a b c xs ys us vs (h F place cubes) (k F place cubes)

-- the report tells the first fault of the LIDRUP text
pub record IsFaulty (F : Cnf) (text : List ℕ) (r : Report) : Type 0 where
  pub fault : CheckFault
  pub first : lidrup_of F text ≡ Err fault
  pub prints : Prints 1 (fault_lines false fault) r

-- how the lift of a LIDRUP text may end: the bytes handed out and the last ones are the log that the text comes to, and the report tells
-- which leaves it closes; or the first fault of the text is told
abbrev pub EndsEach : BlockLift → Ending → Type 0
EndsEach l (Kept rest r) = (F : Cnf) (place : ℕ) (cubes : List Cube) (text handed : List ℕ) → HasTakenBlock F place cubes text handed l
    → ComesTo F text (handed ++ rest.items) (state_of l.log.lines.known) × PrintsBlock F place cubes text (handed ++ rest.items) r
EndsEach l (Dropped r) = (F : Cnf) (place : ℕ) (cubes : List Cube) (text handed : List ℕ) → HasTakenBlock F place cubes text handed l → IsFaulty F text r
