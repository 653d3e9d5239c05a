-- Checking a proof in binary form that comes in pieces.
use Rattle.std.specs.Prelude.{◌≡◌, ◌⊎◌, ℕ, Bool, true, false, List, ◌++◌, Option, Some, None, Result, Ok, Err}
use Rattle.dimacs.specs.logic.Cnf.{Cnf}
use Rattle.lrat_binary.specs.Parser.{ReaderState, read}
use Rattle.lrat_check.specs.ProofFaults.{no_memory}
use Rattle.lrat_check.specs.State.{State}
use Rattle.lrat_check.specs.declared.line_checker.CheckFault.{CheckFault}
use Rattle.proof_check.specs.FirstFault.{check_reading, check_binary_of}

-- The state of a checker of pieces. Within: the state of the checker of steps after the last complete step, the number of the next step,
-- and the state of the reader within it. Failed: the first fault, or a refusal of memory.
pub data BinaryProgress : Type 0 where
  Within : State → ℕ → ReaderState → BinaryProgress
  Failed : CheckFault → BinaryProgress

-- the result of the check if exactly the bytes more follow
abbrev pub check_more : BinaryProgress → List ℕ → Result (Unit {0}) CheckFault
check_more (Within s n begun) more = check_reading s.refuted s.live s.top n (read begun more)
check_more (Failed fault) more = Err fault

-- what the checker answers to a piece, if it is in this state after the piece
abbrev pub answer_in : BinaryProgress → Result (Unit {0}) CheckFault
answer_in (Within s n begun) = Ok tt
answer_in (Failed fault) = Err fault

-- whether a fault was met or memory was refused
abbrev pub has_failed : BinaryProgress → Bool
has_failed (Within s n begun) = false
has_failed (Failed fault) = true

-- In the state p exactly these bytes of a proof of the formula F have been read: whatever bytes follow, the result is that of checking all
-- bytes. Or memory was refused.
abbrev pub HasTaken : Cnf → BinaryProgress → List ℕ → Type 0
HasTaken F p bytes = (p ≡ Failed no_memory) ⊎ ((more : List ℕ) → check_binary_of F (bytes ++ more) ≡ check_more p more)

-- The checker reads a piece in the state old, gives the answer, and is then in the state new. The answer is that of new. A fault stays.
-- Whatever bytes had been read in old, these bytes and the piece have been read in new.
pub record TakesPiece (old : BinaryProgress) (piece : List ℕ) (answer : Result (Unit {0}) CheckFault) (new : BinaryProgress) : Type 0 where
  pub answers : answer ≡ answer_in new
  pub stays : (fault : CheckFault) → old ≡ Failed fault → new ≡ old
  pub history : (F : Cnf) (bytes : List ℕ) → HasTaken F old bytes → HasTaken F new (bytes ++ piece)

-- the state of a checker of pieces from its fields: the fault, the state of the checker of steps, the next step's number, the reader's
-- state
abbrev pub progress_of : Option CheckFault → State → ℕ → ReaderState → BinaryProgress
progress_of None s n begun = Within s n begun
progress_of (Some fault) s n begun = Failed fault
