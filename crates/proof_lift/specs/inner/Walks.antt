-- The walk along hints in the code: its links, and how its answer stands for the end of the walk.
use Rattle.std.specs.Prelude.{◌≡◌, ℕ, ◌<◌, List, [], ◌++◌, ◌⊎◌, Option, Some, None, Result, Ok, Err, map, filter}
use Rattle.std.specs.List.{AllByRecursion}
use Rattle.dimacs.specs.logic.Literal.{Literal, Clause, negation, index_of}
use Rattle.lrat_check.specs.inner.LiteralTable.{FitsTable}
use Rattle.proof_lift.specs.TrimmedLemma.{kept, used}
use Rattle.proof_lift.specs.HintWalk.{ClauseImage, Gone, Kept, ClauseImages, Passed, WalkOutcome, Open, Closed, Wrong}
use Rattle.proof_lift.specs.inner.Faults.{line_fault_number}
use Rattle.proof_lift.specs.declared.fault.LineFault.{LineFault}
use Rattle.proof_lift.specs.declared.fault.LineFault.TheVariants.{NoMemory}
use Rattle.proof_lift.specs.declared.walk.Link.{Link}
use Rattle.proof_lift.specs.declared.walk.Conflict.{Conflict}

-- the literals of each image have cells in a table of this length
abbrev pub ImagesFit : ℕ → ClauseImages → Type 0
ImagesFit places T = (n i : ℕ) (D : Clause) → T n ≡ Some (Kept i D) → FitsTable places D

-- a hint that was unit, by its unit literal and its image
abbrev pub passed_at : Literal → Option ClauseImage → Passed
passed_at unit (Some (Kept i D)) = record { number = i; clause = D; unit = unit }
passed_at unit (Some Gone) = record { number = 0; clause = []; unit = unit }
passed_at unit None = record { number = 0; clause = []; unit = unit }

-- the hint that was unit for which a link of the code stands
abbrev pub passed_in : ClauseImages → Link → Passed
passed_in T link = passed_at link.unit (T link.hint)

-- the hints that were unit for which the links of the code stand
abbrev pub passed_by : ClauseImages → List Link → List Passed
passed_by T chain = map (passed_in T) chain

-- the literals of a hint's clause and its unit literal have cells in a table of this length
abbrev pub IsPlaced : ℕ → Passed → Type 0
IsPlaced places p = FitsTable places p.clause × (index_of p.unit < places)

-- each of these hints has its cells in a table of this length
abbrev pub ChainFits : ℕ → List Passed → Type 0
ChainFits places ps = AllByRecursion (IsPlaced places) ps

-- the end of a walk with these hints before it that were unit
abbrev pub from_there : List Passed → WalkOutcome → WalkOutcome
from_there front Open = Open
from_there front (Closed ps last conflict) = Closed (front ++ ps) last conflict
from_there front (Wrong number) = Wrong number

-- the number of the fault of a walk; none if it ends in a conflict
abbrev pub outcome_fault : WalkOutcome → Option ℕ
outcome_fault Open = Some 15
outcome_fault (Closed ps last conflict) = None
outcome_fault (Wrong number) = Some number

-- the answer is the end of the walk, after the hints ps that were unit; or memory was refused
abbrev pub Tells : Result Conflict LineFault → List Passed → WalkOutcome → Type 0
Tells (Ok c) ps w = w ≡ Closed ps c.number c.clause.now
Tells (Err fault) ps w = (fault ≡ NoMemory) ⊎ (outcome_fault w ≡ Some (line_fault_number fault))

-- after a conflict: D has the literals of E that are used, and `numbers` are the numbers of the hints that are used
abbrev pub Trims : Clause → WalkOutcome → Clause → List ℕ → Type 0
Trims E Open D numbers = ⊥
Trims E (Wrong number) D numbers = ⊥
Trims E (Closed ps last conflict) D numbers = (D ≡ filter (λ l. used ps conflict (negation l)) E) × (numbers ≡ kept ps conflict last)
