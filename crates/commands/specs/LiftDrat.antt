-- What `lift --drat` tells of the files of an input, cubes and a DRAT proof, and what it writes.
use Rattle.std.specs.Prelude.{◌≡◌, ◌≢◌, ◌⊎◌, ℕ, List, Option, Some, None, Err, codes}
use Rattle.commands.specs.Lift.{LiftsLeaf}
use Rattle.dimacs.specs.logic.Cnf.{Cnf, FitsIn}
use Rattle.dimacs.specs.logic.Limits.{Limits}
use Rattle.drat_elaborate.specs.Reports.{elaboration_text}
use Rattle.drat_elaborate.specs.declared.elaborator.Elaborated.{Elaborated}
use Rattle.drat_elaborate.specs.declared.fault.ElaborationFault.{ElaborationFault}
use Rattle.icnf.specs.Leaves.{Cube}
use Rattle.leaves.specs.Leaf.{Prints, above_limit_text, leaf_of, no_leaf_text}
use Rattle.lrat_text.specs.Proof.{Accepts}
use Rattle.reports.specs.declared.report.Report.{Report}

-- what is printed if a DRAT proof needs a RAT lemma
abbrev pub needs_rat_text : List ℕ
needs_rat_text = codes "c proof needs RAT\n"

-- What comes of a DRAT proof for the leaf of this cube and number. An LRAT proof of the leaf's formula is made of it, which is accepted. If
-- that has no RAT lemma, it comes of it what comes of the LRAT proof; else it is told that it has, and nothing is kept. Or nothing is made:
-- the fault of the DRAT proof is told, and nothing is kept.
pub data LiftsDrat (keeps : List ℕ → Type 0) (left : Type 0) (F : Cnf) (q : Cube) (leaf : ℕ) (r : Report) : Type 0 where
  lifts_made : (made : Elaborated) → Accepts (leaf_of q F) made.text → made.statistics.rats ≡ 0 → LiftsLeaf keeps left F q leaf made.text r → LiftsDrat keeps left F q leaf r
  needs_rat : (made : Elaborated) → Accepts (leaf_of q F) made.text → made.statistics.rats ≢ 0 → left → Prints 1 needs_rat_text r → LiftsDrat keeps left F q leaf r
  refuses_drat : (fault : ElaborationFault) → left → Prints 1 (elaboration_text (Err fault)) r → LiftsDrat keeps left F q leaf r

-- What comes of a DRAT proof for the leaf of this number, which has this cube; or it is told that there is no such leaf, or that its
-- formula is above the limits, and nothing is kept. The positions are: the limits, that a log is kept, that nothing is kept, formula, the
-- leaf's cube, the leaf's number, the report.
abbrev pub LiftsDratAt : Limits → (List ℕ → Type 0) → Type 0 → Cnf → Option Cube → ℕ → Report → Type 0
LiftsDratAt L keeps left F None leaf r = left × Prints 1 no_leaf_text r
LiftsDratAt L keeps left F (Some q) leaf r = LiftsDrat keeps left F q leaf r ⊎ (¬ (FitsIn L (leaf_of q F)) × left × Prints 1 above_limit_text r)
