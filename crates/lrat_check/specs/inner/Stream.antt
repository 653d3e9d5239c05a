-- What one piece of a proof's text leads to.
use Rattle.std.specs.Prelude.{◌≡◌, ◌⊎◌, ℕ, List, ◌++◌, Option, Some, None}
use Rattle.lrat_text.specs.Lines.{IsOpen}
use Rattle.lrat_check.specs.ProofFaults.{no_memory}
use Rattle.lrat_check.specs.State.{State}
use Rattle.lrat_check.specs.declared.line_checker.CheckFault.{CheckFault}
use Rattle.lrat_check.specs.Stream.{CheckProgress, Failed, check_more}

-- a piece leads from the state old to the state new: whatever bytes follow it, the result is the same
abbrev pub LeadsTo : CheckProgress → List ℕ → CheckProgress → Type 0
LeadsTo old piece new = (more : List ℕ) → check_more old (piece ++ more) ≡ check_more new more

-- a piece leads from the state old to the state new, or memory was refused
abbrev pub Reaches : CheckProgress → List ℕ → CheckProgress → Type 0
Reaches old piece new = (new ≡ Failed no_memory) ⊎ LeadsTo old piece new

-- the invariant of the fields of a checker of pieces: if it keeps no fault, no step was refused, and the incomplete line has no LF
abbrev pub FaultIsKept : Option CheckFault → State → List ℕ → Type 0
FaultIsKept None s begun = (s.fault ≡ None) × IsOpen begun
FaultIsKept (Some fault) s begun = Unit {0}
