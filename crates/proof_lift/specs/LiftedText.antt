-- What a proof is lifted to, step by step: the text that is written, or the first fault.
use Rattle.std.specs.Prelude.{ℕ, ◌+◌, ◌-◌, Bool, true, false, ◌&&◌, ◌==◌, nat_eq, nat_lt, nat_le, List, [], ◌∷◌, ◌++◌, Option, Some, None, Result, Ok, Err, is_some, length, slice_index_or, if◌then◌else◌}
use Rattle.std.specs.List.{list_any}
use Rattle.dimacs.specs.logic.Cnf.{Cnf}
use Rattle.dimacs.specs.logic.Literal.{Clause, has}
use Rattle.dimacs.specs.logic.Propagation.{negations}
use Rattle.dimacs.specs.logic.Rat.{Group}
use Rattle.dimacs.specs.text.Words.{lines}
use Rattle.lrat_text.specs.Faults.{fault_number}
use Rattle.lrat_text.specs.Log.{Cube, log_top}
use Rattle.lrat_text.specs.Parser.{step_within}
use Rattle.lrat_text.specs.Runs.{text_of}
use Rattle.lrat_text.specs.declared.fault.TextFault.{TextFault}
use Rattle.lrat_text.specs.declared.step.Step.{Step}
use Rattle.lrat_text.specs.declared.step.Step.TheVariants.{Add, Delete}
use Rattle.lrat_check.specs.StepFaults.{is_tautology, is_empty_clause, has_groups}
use Rattle.lrat_check.specs.declared.line_checker.CheckFault.{CheckFault}
use Rattle.proof_lift.specs.HintWalk.{ClauseImage, Gone, Kept, ClauseImages, WalkOutcome, Open, Closed, Wrong, lift_walk}
use Rattle.proof_lift.specs.TrimmedLemma.{kept, union, trimmed}

-- the state between two steps: the images of the foreign clauses, the greatest foreign number, the number of the last lemma that was
-- written, and whether the empty lemma was lifted
pub record LiftState : Type 0 where
  pub stands : ClauseImages
  pub top : ℕ
  pub own : ℕ
  pub closed : Bool

-- whether the clause has a literal of the cube
abbrev pub is_met : Cube → Clause → Bool
is_met q C = list_any (has C) q

-- the images after the clause of a number got one, or was removed
abbrev pub with_image : ClauseImages → ℕ → Option ClauseImage → ClauseImages
with_image T id o = λ n. if nat_eq n id then o else T n

-- each of the numbers is live when its turn comes; they are removed from the left to the right
abbrev pub all_live : ClauseImages → List ℕ → Bool
all_live T [] = true
all_live T (id ∷ ids) = is_some (T id) && all_live (with_image T id None) ids

-- the images after the clauses of these numbers were removed
abbrev pub after_deletion : ClauseImages → List ℕ → ClauseImages
after_deletion T [] = T
after_deletion T (id ∷ ids) = after_deletion (with_image T id None) ids

-- the log's number of a deleted clause's image if the image is a lemma; none for one of the formula's m clauses, which are not deleted
abbrev pub own_number : ℕ → Option ClauseImage → List ℕ
own_number m (Some (Kept i D)) = if nat_lt m i then i ∷ [] else []
own_number m (Some Gone) = []
own_number m None = []

-- the log's numbers of the deleted clauses' images that are lemmas, in the order of the deletion
abbrev pub own_numbers : ℕ → ClauseImages → List ℕ → List ℕ
own_numbers m T [] = []
own_numbers m T (id ∷ ids) = own_number m (T id) ++ own_numbers m (with_image T id None) ids

-- the steps of a deletion of these numbers: one, or none if there is no number
abbrev pub deletion : List ℕ → List Step
deletion [] = []
deletion (i ∷ is) = Delete (i ∷ is) ∷ []

-- ---- steps
-- a lifted step: the steps that are written, and the state after it; or the number of its fault
abbrev pub LiftedStep : Type 0
LiftedStep = Result (List Step × LiftState) ℕ

-- The lifted step that writes a lemma of the log as the image of the foreign lemma of the number
-- `id`. The positions are: the state, `id`, whether the lemma is empty, the clause and the hints of
-- the lemma of the log.
abbrev pub written : LiftState → ℕ → Bool → Clause → List ℕ → LiftedStep
written s id empty D numbers =
    Ok (Add (s.own + 1) D numbers [] ∷ [], record { stands = with_image s.stands id (Some (Kept (s.own + 1) D)); top = id; own = s.own + 1; closed = empty })

-- cube, state, number and clause of a foreign lemma, the end of the walk along its hints: the
-- lifted step of the lemma; hints without a conflict have fault 15
abbrev pub lift_lemma : Cube → LiftState → ℕ → Clause → WalkOutcome → LiftedStep
lift_lemma q s id C Open = Err 15
lift_lemma q s id C (Wrong number) = Err number
lift_lemma q s id C (Closed ps last conflict) = written s id (is_empty_clause C) (trimmed q C ps conflict) (kept ps conflict last)

-- the lifted step of an addition. Its faults: its number is not above all before it (2), its lemma is a tautology (4), it has a group (15).
-- A lemma with a literal of the cube is dropped; any other is lifted
abbrev pub lift_addition : Cube → LiftState → ℕ → Clause → List ℕ → List Group → LiftedStep
lift_addition q s id C hints groups =
    if nat_le id s.top then Err 2
    else if is_tautology C then Err 4
    else if has_groups groups then Err 15
    else if is_met q C then Ok ([], record s { stands = with_image s.stands id (Some Gone); top = id })
    else lift_lemma q s id C (lift_walk s.stands hints (negations (union q C)))

-- the lifted step of a step over a formula of m clauses; a deleted number that is not live when its turn comes is a fault (3)
abbrev pub lift_step : Cube → ℕ → LiftState → Step → LiftedStep
lift_step q m s (Add id C hints groups) = lift_addition q s id C hints groups
lift_step q m s (Delete ids) =
    if all_live s.stands ids then Ok (deletion (own_numbers m s.stands ids), record s { stands = after_deletion s.stands ids }) else Err 3

-- ---- texts
-- what a text is lifted to: the text that is written, or the first fault
abbrev pub LiftResult : Type 0
LiftResult = Result (List ℕ) CheckFault

-- the fault with this number, line and number of the fault of the text
abbrev pub refused : ℕ → ℕ → ℕ → LiftResult
refused number line text = Err (record { number = number; line = line; text = text })

-- the result with these bytes before the text that is written
abbrev pub prepend : List ℕ → LiftResult → LiftResult
prepend front (Ok rest) = Ok (front ++ rest)
prepend front (Err fault) = Err fault

-- the result from a lifted step on: its fault, or the lines of its steps, and then the result from the next line on
abbrev pub lifted_step : ℕ → ℕ → LiftedStep → (LiftState → LiftResult) → LiftResult
lifted_step line own (Err number) later = refused number line 0
lifted_step line own (Ok (steps, s)) later = prepend (text_of own steps) (later s)

-- the result from a line on: a line that spells no step has fault 1; the step is skipped if the empty lemma was lifted
abbrev pub lift_line : Cube → ℕ → LiftState → ℕ → Result Step TextFault → (LiftState → LiftResult) → LiftResult
lift_line q m s line (Err fault) later = refused 1 line (fault_number fault)
lift_line q m s line (Ok step) later = if s.closed then later s else lifted_step line s.own (lift_step q m s step) later

-- the result at the end of a text: nothing may follow the last LF (else fault 1), and the empty lemma has to be lifted (else 13)
abbrev pub lift_end : Bool → ℕ → List ℕ → LiftResult
lift_end closed line [] = if closed then Ok [] else refused 13 line 0
lift_end closed line (b ∷ bs) = refused 1 line 2

-- what the pieces of a text between LFs are lifted to, with variables up to most; the first piece is the line of this number, and the
-- last one is the text's end
unfoldable pub lift_pieces : ℕ → Cube → ℕ → LiftState → ℕ → List ℕ → List (List ℕ) → LiftResult
lift_pieces most q m s line piece [] = lift_end s.closed line piece
lift_pieces most q m s line piece (next ∷ pieces) = lift_line q m s line (step_within most piece) (λ s'. lift_pieces most q m s' (line + 1) next pieces)

-- the result of a function of the first piece and the later ones; a text has at least one piece, which is its end
abbrev pub by_pieces : (List ℕ → List (List ℕ) → LiftResult) → List (List ℕ) → LiftResult
by_pieces lift [] = lift [] []
by_pieces lift (piece ∷ pieces) = lift piece pieces

-- what a text, with variables up to most, is lifted to if its first line has this number
unfoldable pub lift_text : ℕ → Cube → ℕ → LiftState → ℕ → List ℕ → LiftResult
lift_text most q m s line text = by_pieces (lift_pieces most q m s line) (lines text)

-- the image of the clause of number n of a leaf's formula: a clause of F is its own image, and the cube's units need none
abbrev pub place_image : Cnf → ℕ → ClauseImage
place_image F n = if nat_lt (n - 1) (length F.clauses) then Kept n (slice_index_or F.clauses (n - 1) []) else Gone

-- the images before the first step, by number; the clauses of the leaf's formula are numbered from 1
abbrev pub leaf_images : Cube → Cnf → ClauseImages
leaf_images q F n = if n == 0 then None else if nat_le n (length F.clauses + length q) then Some (place_image F n) else None

-- the state before the first step
abbrev pub begun : Cube → Cnf → LiftState
begun q F = record { stands = leaf_images q F; top = length F.clauses + length q; own = length F.clauses; closed = false }

-- the text that a proof of the leaf's formula is lifted to, or the proof's first fault; the proof may have the variables that a log over
-- the formula may have
abbrev pub lift_of : Cnf → Cube → List ℕ → LiftResult
lift_of F q text = lift_text (log_top F) q (length F.clauses) (begun q F) 1 text
