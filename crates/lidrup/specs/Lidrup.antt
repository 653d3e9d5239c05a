-- The log over a formula that a LIDRUP text becomes, line by line; or the text's first fault.
use Rattle.std.specs.Prelude.{◌≡◌, ℕ, ◌<◌, ◌+◌, ◌-◌, ◌==◌, nat_eq, nat_lt, nat_le, List, [], ◌∷◌, ◌++◌, Option, Some, None, Result, Ok, Err, Contains, length, map, take, slice_index, if◌then◌else◌}
use Rattle.std.specs.FinMap.{get}
use Rattle.dimacs.specs.logic.ClauseMap.{ClauseMap, map_of}
use Rattle.dimacs.specs.logic.Cnf.{Cnf}
use Rattle.dimacs.specs.logic.Literal.{Literal, Clause, negation}
use Rattle.dimacs.specs.text.Words.{lines}
use Rattle.lrat_check.specs.StepFaults.{is_empty_clause}
use Rattle.lrat_check.specs.Logs.{log_step_fault}
use Rattle.lrat_check.specs.declared.line_checker.CheckFault.{CheckFault}
use Rattle.lrat_text.specs.Faults.{fault_number}
use Rattle.lrat_text.specs.Log.{Cube, after_step, log_top, top_after}
use Rattle.lrat_text.specs.Runs.{text_of}
use Rattle.lrat_text.specs.declared.step.Step.{Step}
use Rattle.lrat_text.specs.declared.step.Step.TheVariants.{Add, Delete}
use Rattle.lidrup.specs.Lines.{Line, Given, Learnt, Closed, Deleted, Asked, Silent, ParsedLine, line_in}

-- for each foreign number, the log's number of the clause that it names
abbrev pub Names : Type 0
Names = ℕ → Option ℕ

-- the names after this foreign number got a name, or lost it (`None`)
abbrev pub with_name : Names → ℕ → Option ℕ → Names
with_name T id own = λ n. if nat_eq n id then own else T n

-- The state between two lines: the names; the greatest foreign number; the number of the formula's clauses that were given; the number of
-- the lemma that closed a cube last; for each query, that of the lemma that closed its cube; the number of the empty lemma (each of these 0
-- if there is none); the log's live clauses, and its last number.
pub record LidrupState : Type 0 where
  pub names : Names
  pub last : ℕ
  pub given : ℕ
  pub closing : ℕ
  pub closings : List ℕ
  pub empty : ℕ
  pub live : ClauseMap
  pub top : ℕ

-- the result of a line: the steps of the log that it becomes, and the state after it; or the fault's number, and that of a fault of the
-- text
abbrev pub LineResult : Type 0
LineResult = Result (List Step × LidrupState) (ℕ × ℕ)

-- ---- a step of the log
-- the number of the last empty lemma after a step; 0 if there is none
abbrev pub empty_after : ℕ → Step → ℕ
empty_after empty (Add id C hints groups) = if is_empty_clause C then id else empty
empty_after empty (Delete ids) = empty

-- the state after a step of the log
abbrev pub after : LidrupState → Step → LidrupState
after s step = record s { live = after_step s.live step; top = top_after s.top step; empty = empty_after s.empty step }

-- the result of a step of the log: the step and the state after it, or its fault
abbrev pub by_fault : LidrupState → Step → Option ℕ → LineResult
by_fault s step None = Ok (step ∷ [], after s step)
by_fault s step (Some number) = Err (number, 0)

-- the result of the next step of a log over a formula of m clauses: it is taken, or has its first fault
abbrev pub logged : ℕ → LidrupState → Step → LineResult
logged m s step = by_fault s step (log_step_fault m s.live s.top step)

-- ---- lines
-- the later result, with the log's number of a hint appended to `own`; none if the hint names no clause
abbrev pub by_name : List ℕ → Option ℕ → (List ℕ → Option (List ℕ)) → Option (List ℕ)
by_name own None later = None
by_name own (Some number) later = later (own ++ number ∷ [])

-- the log's numbers of the hints, after the numbers `own`; none if a hint names no clause
abbrev pub own_numbers : Names → List ℕ → List ℕ → Option (List ℕ)
own_numbers T own [] = Some own
own_numbers T own (hint ∷ hints) = by_name own (T hint) (λ more. own_numbers T more hints)

-- the number of the log, if it is that of a lemma: above the number m of the formula's clauses
abbrev pub own_lemma : ℕ → Option ℕ → List ℕ
own_lemma m None = []
own_lemma m (Some number) = if nat_lt m number then number ∷ [] else []

-- the names without these foreign numbers, which are removed from the left, and after `own` the log's numbers of their lemmas
abbrev pub forgotten : ℕ → Names → List ℕ → List ℕ → Names × List ℕ
forgotten m T own [] = (T, own)
forgotten m T own (id ∷ ids) = forgotten m (with_name T id None) (own ++ own_lemma m (T id)) ids

-- the state after this foreign number, which is the greatest from now on, names the clause `own` of the log
abbrev pub naming : LidrupState → ℕ → ℕ → LidrupState
naming s id own = record s { names = with_name s.names id (Some own); last = id }

-- the state after the lemma of this number closed the cube of the last query
abbrev pub closing_by : LidrupState → ℕ → LidrupState
closing_by s number = record s { closing = number; closings = take (length s.closings - 1) s.closings ++ number ∷ [] }

-- the result of a given clause: the next one of a formula of m clauses; or after these the negation of a cube, which follows from the last
-- closing lemma
abbrev pub given : ℕ → LidrupState → ℕ → Clause → LineResult
given m s id C =
    if nat_lt s.given m then Ok ([], record (naming s id (s.given + 1)) { given = s.given + 1 })
    else if s.closing == 0 then Err (3, 0)
    else logged m (naming s id (s.top + 1)) (Add (s.top + 1) C (s.closing ∷ []) [])

-- the result of a lemma with these numbers as hints; fault 3 if a hint names no clause
abbrev pub follows : ℕ → LidrupState → Clause → Option (List ℕ) → LineResult
follows m s C None = Err (3, 0)
follows m s C (Some numbers) = logged m s (Add (s.top + 1) C numbers [])

-- the result of a deletion with these names left; a deletion of no lemma is not written
abbrev pub deleting : ℕ → LidrupState → Names × List ℕ → LineResult
deleting m s (T, []) = Ok ([], record s { names = T })
deleting m s (T, number ∷ numbers) = logged m (record s { names = T }) (Delete (number ∷ numbers))

-- the result of a line: a number of `i` and of `l` is above all before it (else fault 2), and each hint names a clause (else 3); for `u`
-- there was a query (else 3), and for `i`, after the formula's clauses, a lemma that closed a cube (else 3)
abbrev pub take_line : ℕ → LidrupState → Line → LineResult
take_line m s (Given id C) = if nat_le id s.last then Err (2, 0) else given m s id C
take_line m s (Learnt id C hints) = if nat_le id s.last then Err (2, 0) else follows m (naming s id (s.top + 1)) C (own_numbers s.names [] hints)
take_line m s (Closed C hints) =
    if length s.closings == 0 then Err (3, 0) else follows m (closing_by s (s.top + 1)) (map negation C) (own_numbers s.names [] hints)
take_line m s (Deleted ids) = deleting m s (forgotten m s.names [] ids)
take_line m s Asked = Ok ([], record s { closings = s.closings ++ 0 ∷ [] })
take_line m s Silent = Ok ([], s)

-- the result of a parsed line, or the fault of the parser as fault 1
abbrev pub take_read : ℕ → LidrupState → ParsedLine → LineResult
take_read m s (Ok line) = take_line m s line
take_read m s (Err fault) = Err (1, fault_number fault)

-- ---- texts
-- the log, and the state after the text; or the fault
abbrev pub LidrupResult : Type 0
LidrupResult = Result (List ℕ × LidrupState) CheckFault

-- the fault with this number, line and number of the fault of the text
abbrev pub refused : ℕ → ℕ → ℕ → LidrupResult
refused number line text = Err (record { number = number; line = line; text = text })

-- a log with these bytes before it
abbrev pub prepend : List ℕ → LidrupResult → LidrupResult
prepend front (Ok rest) = Ok (front ++ rest.0, rest.1)
prepend front (Err fault) = Err fault

-- the result from a line on, by the result of the line: its fault, or the lines of its steps and then what comes later
abbrev pub going_on : ℕ → ℕ → LineResult → (LidrupState → LidrupResult) → LidrupResult
going_on line top (Err fault) later = refused fault.0 line fault.1
going_on line top (Ok (steps, s)) later = prepend (text_of top steps) (later s)

-- the result from a line on, with variables up to most, over a formula of m clauses; a line after the empty lemma is not read
abbrev pub lidrup_line : ℕ → ℕ → LidrupState → ℕ → List ℕ → (LidrupState → LidrupResult) → LidrupResult
lidrup_line most m s line text later = if s.empty == 0 then going_on line s.top (take_read m s (line_in most text)) later else later s

-- the result at the end of a text: nothing may follow the last LF (else fault 1)
abbrev pub lidrup_end : LidrupState → ℕ → List ℕ → LidrupResult
lidrup_end s line [] = Ok ([], s)
lidrup_end s line (b ∷ bs) = refused 1 line 2

-- the log of the pieces of a text between LFs, with variables up to most; the first piece is the line of this number, and the last one is
-- the text's end
unfoldable pub lidrup_pieces : ℕ → ℕ → LidrupState → ℕ → List ℕ → List (List ℕ) → LidrupResult
lidrup_pieces most m s line piece [] = lidrup_end s line piece
lidrup_pieces most m s line piece (next ∷ pieces) = lidrup_line most m s line piece (λ t. lidrup_pieces most m t (line + 1) next pieces)

-- the result of a function of the first piece and the later ones; a text has at least one piece, which is its end
abbrev pub by_pieces : (List ℕ → List (List ℕ) → LidrupResult) → List (List ℕ) → LidrupResult
by_pieces log [] = log [] []
by_pieces log (piece ∷ pieces) = log piece pieces

-- the log of a text, with variables up to most, whose first line has this number
unfoldable pub lidrup_text : ℕ → ℕ → LidrupState → ℕ → List ℕ → LidrupResult
lidrup_text most m s line text = by_pieces (lidrup_pieces most m s line) (lines text)

-- the state before the first line
abbrev pub begun : Cnf → LidrupState
begun F = record { names = λ n. None; last = 0; given = 0; closing = 0; closings = []; empty = 0; live = map_of F; top = length F.clauses }

-- the log over the formula that a text becomes, or the text's first fault; the text may have the variables that a log over the formula may
-- have
abbrev pub lidrup_of : Cnf → List ℕ → LidrupResult
lidrup_of F text = lidrup_text (log_top F) (length F.clauses) (begun F) 1 text

-- ---- cubes
-- the number of the lemma that closes the cube of a query, counted from 0: the empty lemma, if there is one, closes each; 0 if there is
-- none
abbrev pub closing_of : LidrupState → ℕ → ℕ
closing_of s query = if s.empty == 0 then slice_index s.closings query else s.empty

-- each literal of the clause C is the negation of one of the cube's
abbrev pub Negates : Cube → Clause → Type 0
Negates q C = (l : Literal) → Contains C l → Contains q (negation l)

-- over a formula of m clauses, a lemma of the log's own is live under this number, and closes the cube
pub record IsClosing (m : ℕ) (live : ClauseMap) (number : ℕ) (q : Cube) : Type 0 where
  pub clause : Clause
  pub own : m < number
  pub lives : get live number ≡ Some clause
  pub negates : Negates q clause

-- the text becomes a log, and the lemma that closes the cube of a query closes this cube
pub record ClosesQuery (F : Cnf) (text : List ℕ) (query : ℕ) (q : Cube) : Type 0 where
  pub log : List ℕ
  pub state : LidrupState
  pub comes : lidrup_of F text ≡ Ok (log, state)
  pub closing : IsClosing (length F.clauses) state.live (closing_of state query) q
