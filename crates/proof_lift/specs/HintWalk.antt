-- Unit propagation along a lemma's hints, over the images of the clauses that they name.
use Rattle.std.specs.Prelude.{ℕ, List, [], ◌∷◌, Option, Some, None}
use Rattle.dimacs.specs.logic.Literal.{Literal, Clause}
use Rattle.dimacs.specs.logic.Propagation.{Assumed, with_literal}
use Rattle.lrat_check.specs.StepFaults.{Status, Satisfied, Falsified, Unit, Undecided, status}

-- the image of a live clause: `Gone` if none is needed, since the clause has a literal of the cube; else the clause of the log with this
-- number
pub data ClauseImage : Type 0 where
  Gone : ClauseImage
  Kept : ℕ → Clause → ClauseImage

-- the images of the live clauses, by foreign number; `None` if no clause of the number is live
abbrev pub ClauseImages : Type 0
ClauseImages = ℕ → Option ClauseImage

-- a hint that was unit: the number of its image, the image, and the unit literal
pub record Passed : Type 0 where
  pub number : ℕ
  pub clause : Clause
  pub unit : Literal

-- the end of a walk: `Open`, without a conflict; `Closed`, after hints that were unit, at a false clause with its number; or `Wrong`, with
-- the fault of this number
pub data WalkOutcome : Type 0 where
  Open : WalkOutcome
  Closed : List Passed → ℕ → Clause → WalkOutcome
  Wrong : ℕ → WalkOutcome

-- the end of a walk with one more hint before it that was unit
abbrev pub along : Passed → WalkOutcome → WalkOutcome
along p Open = Open
along p (Closed ps last conflict) = Closed (p ∷ ps) last conflict
along p (Wrong number) = Wrong number

-- the walk from a hint with this image, by the image's status: a true clause is skipped, a false one is the conflict, the literal of a unit
-- one becomes true; any other has fault 6
abbrev pub walk_status : ℕ → Clause → Assumed → (Assumed → WalkOutcome) → Status → WalkOutcome
walk_status i D A next Satisfied = next A
walk_status i D A next Falsified = Closed [] i D
walk_status i D A next (Unit l) = along (record { number = i; clause = D; unit = l }) (next (with_literal A l))
walk_status i D A next Undecided = Wrong 6

-- the walk from a hint, by the image of its clause: a hint that names no live clause has fault 3; one whose clause has a literal of the
-- cube is skipped
abbrev pub walk_hint : Assumed → (Assumed → WalkOutcome) → Option ClauseImage → WalkOutcome
walk_hint A next None = Wrong 3
walk_hint A next (Some Gone) = next A
walk_hint A next (Some (Kept i D)) = walk_status i D A next (status A D)

-- the walk along the hints in turn, up to the first false clause
abbrev pub lift_walk : ClauseImages → List ℕ → Assumed → WalkOutcome
lift_walk T [] A = Open
lift_walk T (hint ∷ hints) A = walk_hint A (λ B. lift_walk T hints B) (T hint)
