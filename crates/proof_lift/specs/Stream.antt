-- The lifting of a text that comes in pieces: the state between two pieces.
use Rattle.std.specs.Prelude.{◌≡◌, ◌⊎◌, ℕ, Bool, true, false, List, [], ◌∷◌, ◌++◌, ◌==◌, ◌%◌, Option, Some, None, Result, Ok, Err, length, slice_get, if◌then◌else◌}
use Rattle.dimacs.specs.logic.Cnf.{Cnf}
use Rattle.lrat_text.specs.Log.{Cube, log_top}
use Rattle.lrat_text.specs.Grammar.{IsStep}
use Rattle.lrat_text.specs.WrittenLine.{line_of}
use Rattle.lrat_text.specs.declared.step.Step.TheVariants.{Add}
use Rattle.lrat_check.specs.ProofFaults.{no_memory}
use Rattle.lrat_check.specs.declared.line_checker.CheckFault.{CheckFault}
use Rattle.proof_lift.specs.HintWalk.{ClauseImage, ClauseImages}
use Rattle.proof_lift.specs.LiftedText.{LiftState, place_image, LiftResult, refused, prepend, lift_text, lift_of}

-- the state between two lines: the formula and the cube; which clauses of the leaf's formula are live, by number; the images of the live
-- lemmas; the greatest foreign number, the number of the last lemma that was written, and whether the empty lemma was lifted
pub record Held : Type 0 where
  pub formula : Cnf
  pub cube : Cube
  pub live : List Bool
  pub lemmas : List (List (ℕ × ClauseImage))
  pub top : ℕ
  pub own : ℕ
  pub closed : Bool

-- the image of the lemma of number n, looked up in a list of numbers with their images
abbrev pub lemma_image : List (ℕ × ClauseImage) → ClauseImages
lemma_image [] n = None
lemma_image (e ∷ es) n = if n == e.0 then Some e.1 else lemma_image es n

-- the image of the lemma of number n in a list; none without a list
abbrev pub lemma_in : Option (List (ℕ × ClauseImage)) → ClauseImages
lemma_in None n = None
lemma_in (Some es) n = lemma_image es n

-- the image of the lemma of number n, looked up in the list of the number's remainder by 8,192
abbrev pub lemma_among : List (List (ℕ × ClauseImage)) → ClauseImages
lemma_among lists n = lemma_in (slice_get lists (n % 8192)) n

-- the image of clause n, by the image of the lemma n and by the flag of n: without a flag, n is no clause of the leaf's formula
abbrev pub by_live : Cnf → ℕ → Option ClauseImage → Option Bool → Option ClauseImage
by_live F n lemma None = lemma
by_live F n lemma (Some true) = Some (place_image F n)
by_live F n lemma (Some false) = None

-- the images by the flags of the leaf's formula and the lists of lemmas
abbrev pub images_in : Cnf → List Bool → List (List (ℕ × ClauseImage)) → ClauseImages
images_in F live lemmas n = by_live F n (lemma_among lemmas n) (slice_get live n)

-- the state between two steps that these tables stand for
abbrev pub state_in : Held → LiftState
state_in h = record { stands = images_in h.formula h.live h.lemmas; top = h.top; own = h.own; closed = h.closed }

-- what is kept of the pieces so far: the state after the last LF, the number of the line that follows it, and the bytes of that line so
-- far; or the fault that was met
pub data LiftProgress : Type 0 where
  Within : Held → ℕ → List ℕ → LiftProgress
  Failed : CheckFault → LiftProgress

-- what is written if exactly these bytes follow
abbrev pub lift_more : LiftProgress → List ℕ → LiftResult
lift_more (Within h line begun) more = lift_text (log_top h.formula) h.cube (length h.formula.clauses) (state_in h) line (begun ++ more)
lift_more (Failed fault) more = Err fault

-- the answer to a piece, by the state after it
abbrev pub answer_in : LiftProgress → Result (Unit {0}) CheckFault
answer_in (Within h line begun) = Ok tt
answer_in (Failed fault) = Err fault

-- formula, cube, progress, `bytes`, `written`: `bytes` of a proof of the leaf's formula were taken,
-- and the bytes `written` of the log were written. Whatever follows, the whole proof is lifted to
-- `written` and then what is written from this progress on. Or memory was refused.
abbrev pub HasTaken : Cnf → Cube → LiftProgress → List ℕ → List ℕ → Type 0
HasTaken F q p bytes written = (p ≡ Failed no_memory) ⊎ ((more : List ℕ) → lift_of F q (bytes ++ more) ≡ prepend written (lift_more p more))

-- A piece is taken: bytes are appended to those before, the answer is the new state's, a fault stays, and whatever bytes were taken and
-- written, the piece is now taken too, and its bytes are written.
pub record TakesPiece (old : LiftProgress) (piece before after : List ℕ) (answer : Result (Unit {0}) CheckFault) (new : LiftProgress) : Type 0 where
  pub appended : List ℕ
  pub out : after ≡ before ++ appended
  pub answers : answer ≡ answer_in new
  pub stays : (fault : CheckFault) → old ≡ Failed fault → (new ≡ old) × (appended ≡ [])
  pub history : (F : Cnf) (q : Cube) (bytes written : List ℕ) → HasTaken F q old bytes written → HasTaken F q new (bytes ++ piece) (written ++ appended)

-- the line of the empty lemma under a number
abbrev pub empty_lemma : ℕ → List ℕ → List ℕ
empty_lemma n hints = line_of n (Add n [] hints [])

-- one more line, that of the empty lemma, makes the text a proof, and exactly this is left to write
pub record EndsWithLine (p : LiftProgress) (appended : List ℕ) : Type 0 where
  pub number : ℕ
  pub hints : List ℕ
  pub limits : IsStep (Add number [] hints [])
  pub lifts : lift_more p (empty_lemma number hints) ≡ Ok appended

-- nothing is left to write; or the empty lemma alone is missing (fault 13), and the line of the empty lemma is written
abbrev pub IsEnded : LiftProgress → List ℕ → Type 0
IsEnded p appended =
    ((lift_more p [] ≡ Ok []) × (appended ≡ []))
    ⊎ ((line : ℕ) × (lift_more p [] ≡ refused 13 line 0) × EndsWithLine p appended)

-- the first fault of the text; it is 13 only if no line of the empty lemma would make the text a proof
pub record IsLastFault (p : LiftProgress) (fault : CheckFault) : Type 0 where
  pub first : lift_more p [] ≡ Err fault
  pub wanting : fault.number ≡ 13 → (appended : List ℕ) → ¬ (EndsWithLine p appended)

-- the first fault of a whole text, in whatever pieces it came; it is 13 only if no line of the empty lemma would make the text a proof
pub record IsFaultOf (F : Cnf) (q : Cube) (text : List ℕ) (fault : CheckFault) : Type 0 where
  pub first : lift_of F q text ≡ Err fault
  pub wanting : fault.number ≡ 13 → (n : ℕ) (hints lifted : List ℕ) → IsStep (Add n [] hints []) → ¬ (lift_of F q (text ++ empty_lemma n hints) ≡ Ok lifted)

-- the answer if no further byte comes, and the output before and after: bytes are appended that end the log; or the answer is the last
-- fault
abbrev pub GivesEnd : LiftProgress → Result (Unit {0}) CheckFault → List ℕ → List ℕ → Type 0
GivesEnd p (Ok _) before after = (appended : List ℕ) × (after ≡ before ++ appended) × IsEnded p appended
GivesEnd p (Err fault) before after = (fault ≡ no_memory) ⊎ IsLastFault p fault

-- the progress with this fault, if one is kept; else with this state, line number and unfinished line
abbrev pub progress_of : Option CheckFault → Held → ℕ → List ℕ → LiftProgress
progress_of None h line begun = Within h line begun
progress_of (Some fault) h line begun = Failed fault
