-- What one piece of a proof in binary form leads to.
use Rattle.std.specs.Prelude.{◌≡◌, ◌⊎◌, ℕ, List, ◌++◌, Option, Some, None}
use Rattle.lrat_binary.specs.declared.step_sink.FeedFault.{FeedFault}
use Rattle.lrat_binary.specs.declared.step_sink.FeedFault.TheVariants.{Bytes, Step as OfStep}
use Rattle.lrat_check.specs.ProofFaults.{no_memory}
use Rattle.lrat_check.specs.Refusals.{text_refusal}
use Rattle.lrat_check.specs.State.{State}
use Rattle.lrat_check.specs.declared.line_checker.CheckFault.{CheckFault}
use Rattle.proof_check.specs.Stream.{BinaryProgress, Failed, check_more}

-- a piece leads from the state old to the state new: whatever bytes follow it, the result is the same
abbrev pub LeadsTo : BinaryProgress → List ℕ → BinaryProgress → Type 0
LeadsTo old piece new = (more : List ℕ) → check_more old (piece ++ more) ≡ check_more new more

-- a piece leads from the state old to the state new, or memory was refused
abbrev pub Reaches : BinaryProgress → List ℕ → BinaryProgress → Type 0
Reaches old piece new = (new ≡ Failed no_memory) ⊎ LeadsTo old piece new

-- the invariant of the fields of a checker of pieces: if it keeps no fault, no step was refused
abbrev pub IsBinaryProgress : Option CheckFault → State → Type 0
IsBinaryProgress None s = s.fault ≡ None
IsBinaryProgress (Some fault) s = Unit {0}

-- the fault of a piece that was not taken to its end, if the next step has the number n
abbrev pub feed_refusal : FeedFault CheckFault → ℕ → CheckFault
feed_refusal (Bytes fault) n = text_refusal fault n
feed_refusal (OfStep fault) n = fault
