-- A lifter that is ready for the next line, and what a line leaves unchanged.
use Rattle.std.specs.Prelude.{◌≡◌, ℕ, ◌+◌, ◌<◌, ◌≤◌, ◌^◌, Some, All, length, vec_len}
use Rattle.dimacs.specs.logic.Literal.{Clause, IsWithin}
use Rattle.dimacs.specs.logic.Propagation.{negations}
use Rattle.lrat_text.specs.Grammar.{IsClauseNumber}
use Rattle.lrat_check.specs.inner.LiteralTable.{FitsTable}
use Rattle.proof_lift.specs.HintWalk.{Kept, ClauseImages}
use Rattle.proof_lift.specs.LiftedText.{LiftState}
use Rattle.proof_lift.specs.inner.Clean.{IsClean}
use Rattle.proof_lift.specs.inner.Images.{images_of}
use Rattle.proof_lift.specs.inner.Tables.{marked, AllBelow}
use Rattle.proof_lift.specs.inner.Walks.{ImagesFit}
use Rattle.proof_lift.specs.declared.step_lifter.StepLifter.{StepLifter}

-- the numbers and the literals of the images are within the limits of a text with variables up to most
abbrev pub ImagesSmall : ℕ → ClauseImages → Type 0
ImagesSmall most T = (n i : ℕ) (D : Clause) → T n ≡ Some (Kept i D) → IsClauseNumber i × All (IsWithin most) D

-- the state between two steps that the lifter's fields stand for
abbrev pub state_of : StepLifter → LiftState
state_of x = record { stands = images_of x.images; top = x.top; own = x.own; closed = x.closed }

-- images and cube have cells in the tables, and their literals and numbers are within the limits of a log over any base
pub record AllFits (x : StepLifter) : Type 0 where
  pub marks_fit : ImagesFit (vec_len x.scratch.marks) (images_of x.images)
  pub used_fit : ImagesFit (vec_len x.scratch.used) (images_of x.images)
  pub cube_marks : FitsTable (vec_len x.scratch.marks) x.cube.items
  pub cube_used : FitsTable (vec_len x.scratch.used) x.cube.items
  pub small : ImagesSmall 199999999 (images_of x.images)
  pub last : (n i : ℕ) (D : Clause) → images_of x.images n ≡ Some (Kept i D) → i ≤ x.own
  pub cube : All (IsWithin 199999999) x.cube.items
  pub below : x.own ≤ x.top
  pub room : x.top < 2 ^ 48
  pub lemmas : length x.images.live.items ≤ x.top + 1

-- the lifter is ready for the line of this number
pub record IsReady (line : ℕ) (x : StepLifter) : Type 0 where
  pub positive : 0 < line
  pub able : AllFits x
  pub clean : IsClean line x.scratch

-- the negations of the literals of the lemma C are assumed under the stamp of this line
pub record IsAssumed (line : ℕ) (x : StepLifter) (C : Clause) : Type 0 where
  pub positive : 0 < line
  pub able : AllFits x
  pub lemma_marks : FitsTable (vec_len x.scratch.marks) C
  pub lemma_used : FitsTable (vec_len x.scratch.used) C
  pub assumed : marked x.scratch.marks.items line ≡ negations C
  pub marks : AllBelow (line + 1) x.scratch.marks.items
  pub used : AllBelow line x.scratch.used.items

-- the leaf is unchanged: formula and cube
pub record SameLeaf (old new : StepLifter) : Type 0 where
  pub formula : new.images.formula ≡ old.images.formula
  pub cube : new.cube ≡ old.cube

-- the leaf, the tables by literal and the number of the leaf's clauses are unchanged
pub record KeepsTables (old new : StepLifter) : Type 0 where
  pub leaf : SameLeaf old new
  pub marks : new.scratch.marks ≡ old.scratch.marks
  pub used : new.scratch.used ≡ old.scratch.used
  pub live : length new.images.live.items ≡ length old.images.live.items
