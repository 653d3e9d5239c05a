-- Checking a proof's text that comes in pieces.
use Rattle.std.specs.Prelude.{◌≡◌, ◌⊎◌, ℕ, Bool, true, false, List, ◌++◌, Option, Some, None, Result, Ok, Err}
use Rattle.dimacs.specs.logic.Cnf.{Cnf}
use Rattle.lrat_text.specs.Lines.{IsOpen}
use Rattle.lrat_check.specs.ProofFaults.{check_text, check_of, no_memory}
use Rattle.lrat_check.specs.State.{State}
use Rattle.lrat_check.specs.declared.line_checker.CheckFault.{CheckFault}

-- The state of a checker of pieces. Within: the greatest variable that a line may have, the state of the checker of steps after the last
-- LF, the number of the line that follows the LF, and the bytes of this line so far. Failed: the first fault, or a refusal of memory.
pub data CheckProgress : Type 0 where
  Within : ℕ → State → ℕ → List ℕ → CheckProgress
  Failed : CheckFault → CheckProgress

-- the result of the check if exactly the bytes more follow
abbrev pub check_more : CheckProgress → List ℕ → Result (Unit {0}) CheckFault
check_more (Within most s line begun) more = check_text most s.refuted s.live s.top line (begun ++ more)
check_more (Failed fault) more = Err fault

-- what the checker answers to a piece, if it is in this state after the piece
abbrev pub answer_in : CheckProgress → Result (Unit {0}) CheckFault
answer_in (Within most s line begun) = Ok tt
answer_in (Failed fault) = Err fault

-- whether a fault was met, or memory was refused
abbrev pub has_failed : CheckProgress → Bool
has_failed (Within most s line begun) = false
has_failed (Failed fault) = true

-- In the state p exactly these bytes of a proof of the formula F have been read: whatever bytes follow, the result is that of checking all
-- bytes. Or memory was refused.
abbrev pub HasTaken : Cnf → CheckProgress → List ℕ → Type 0
HasTaken F p bytes = (p ≡ Failed no_memory) ⊎ ((more : List ℕ) → check_of F (bytes ++ more) ≡ check_more p more)

-- The checker reads a piece in the state old, gives the answer, and is then in the state new. The answer is that of new. A fault stays.
-- Whatever bytes had been read in old, these bytes and the piece have been read in new.
pub record TakesPiece (old : CheckProgress) (piece : List ℕ) (answer : Result (Unit {0}) CheckFault) (new : CheckProgress) : Type 0 where
  pub answers : answer ≡ answer_in new
  pub stays : (fault : CheckFault) → old ≡ Failed fault → new ≡ old
  pub history : (F : Cnf) (bytes : List ℕ) → HasTaken F old bytes → HasTaken F new (bytes ++ piece)

-- the incomplete line of this state has no LF, so each complete line was taken
abbrev pub IsWithinLine : CheckProgress → Type 0
IsWithinLine (Within most s line begun) = IsOpen begun
IsWithinLine (Failed fault) = Unit {0}

-- the state of a checker of pieces from its fields: the fault, the greatest variable that a line may have, the state of the checker of
-- steps, the line's number, the incomplete line
abbrev pub progress_of : Option CheckFault → ℕ → State → ℕ → List ℕ → CheckProgress
progress_of None most s line begun = Within most s line begun
progress_of (Some fault) most s line begun = Failed fault
