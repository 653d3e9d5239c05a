-- What a session's proof answers, line by line, up to its first fault.
use Rattle.std.specs.Prelude.{ℕ, ◌+◌, ◌*◌, ◌&&◌, max, not, nat_eq, nat_le, Bool, true, false, List, [], ◌∷◌, ◌++◌, Option, Some, None, Ok, Err, map, if◌then◌else◌}
use Rattle.std.specs.FinMap.{get, insert, remove, from_entries}
use Rattle.std.specs.List.{list_any, list_all}
use Rattle.dimacs.specs.logic.ClauseMap.{ClauseMap}
use Rattle.dimacs.specs.logic.Limits.{Limits}
use Rattle.dimacs.specs.logic.Literal.{Literal, Clause, has, negation}
use Rattle.dimacs.specs.logic.Propagation.{Assumed}
use Rattle.dimacs.specs.text.Words.{lines}
use Rattle.icnf.specs.Comparison.{is_clause}
use Rattle.lrat_check.specs.StepFaults.{is_tautology}
use Rattle.lrat_check.specs.Logs.{log_lemma_fault}
use Rattle.lrat_check.specs.declared.line_checker.CheckFault.{CheckFault}
use Rattle.lrat_text.specs.Faults.{fault_number}
use Rattle.lrat_text.specs.Log.{Cube}
use Rattle.sessions.specs.Answers.{Event, Given, Asked, Answer, Satisfied, Failed, Unknown}
use Rattle.sessions.specs.Lines.{Line, Gives, Asks, Learns, Deletes, Says, Shows, Fails, Silent, Read, line_within}
use Rattle.sessions.specs.declared.kind.Status.{Status}
use Rattle.sessions.specs.declared.kind.Status.TheVariants as status
use Rattle.sessions.specs.declared.stage.Stage.{Stage}
use Rattle.sessions.specs.declared.stage.Stage.TheVariants as stage

-- The state between two lines: the numbers of the given clauses, in order; the live clauses and lemmas; the greatest number so far; the
-- stage of the last query, and its literals; and the limits of the events.
pub record State : Type 0 where
  pub limits : Limits
  pub given : List ℕ
  pub live : ClauseMap
  pub last : ℕ
  pub stage : Stage
  pub query : Cube

-- the outcome of a line: the new state, and the answer that the line gives, if any; the new state, provided that the next event is this
-- one; or the fault's number, and that of the fault of the text (0 if it is not in the text)
pub data Taken : Type 0 where
  Goes : Option Answer → State → Taken
  Awaits : Event → State → Taken
  Faulty : ℕ → ℕ → Taken

-- ---- lines
-- the outcome of a line with the fault of this number, which is not in its text
abbrev pub fault : ℕ → Taken
fault number = Faulty number 0

-- no query is open
abbrev pub is_between : Stage → Bool
is_between stage.Between = true
is_between stage.Open = false
is_between stage.Satisfiable = false
is_between stage.Unsatisfiable = false

-- the state with this clause, live under a number that becomes the greatest
abbrev pub with_clause : State → ℕ → Clause → State
with_clause s id C = record s { live = insert s.live id C; last = id }

-- state, number, clause: the outcome of line `i`, a given clause
abbrev pub gives : State → ℕ → Clause → Taken
gives s id C =
    if not (is_between s.stage) then fault 19
    else if nat_le id s.last then fault 2
    else Awaits (Given C) (record (with_clause s id C) { given = s.given ++ id ∷ [] })

-- state, query: the outcome of line `q`, a query
abbrev pub asks : State → Cube → Taken
asks s A = if not (is_between s.stage) then fault 19 else Awaits (Asked A) (record s { stage = stage.Open; query = A })

-- the fault, if there is one, and else the outcome `right`
abbrev pub by_fault : Option ℕ → Taken → Taken
by_fault None right = right
by_fault (Some number) right = fault number

-- state, number, lemma, hints: the outcome of line `l`; the lemma has to follow by its hints from what is live
abbrev pub learns : State → ℕ → Clause → List ℕ → Taken
learns s id C hints = if nat_le id s.last then fault 2 else by_fault (log_lemma_fault s.live C hints []) (Goes None (with_clause s id C))

-- numbers of given clauses, live clauses, numbers: the live clauses without the lemmas of these numbers; given clauses stay, and numbers
-- that are not live are passed over
abbrev pub without : List ℕ → ClauseMap → List ℕ → ClauseMap
without given M [] = M
without given M (id ∷ ids) = without given (if list_any (nat_eq id) given then M else remove M id) ids

-- state, numbers: the outcome of line `d`
abbrev pub deletes : State → List ℕ → Taken
deletes s ids = Goes None (record s { live = without s.given s.live ids })

-- state, stage, status: the outcome of line `s`, the status of the open query; the status unknown closes the query
abbrev pub says : State → Stage → Status → Taken
says s stage.Open status.Satisfiable = Goes None (record s { stage = stage.Satisfiable })
says s stage.Open status.Unsatisfiable = Goes None (record s { stage = stage.Unsatisfiable })
says s stage.Open status.Unknown = Goes (Some Unknown) (record s { stage = stage.Between })
says s stage.Between word = fault 19
says s stage.Satisfiable word = fault 19
says s stage.Unsatisfiable word = fault 19

-- the clause has a literal that is `named`; false if there is no clause
abbrev pub is_met : Assumed → Option Clause → Bool
is_met named None = false
is_met named (Some C) = list_any named C

-- the literals contain no complementary pair, one literal of each given clause, and all literals of the query
abbrev pub is_model : State → List Literal → Bool
is_model s model = not (is_tautology model) && (list_all (λ id. is_met (has model) (get s.live id)) s.given && list_all (has model) s.query)

-- state, stage, model: the outcome of line `m`, which closes a query whose status is satisfiable
abbrev pub shows : State → Stage → List Literal → Taken
shows s stage.Satisfiable model = if is_model s model then Goes (Some (Satisfied model)) (record s { stage = stage.Between }) else fault 20
shows s stage.Between model = fault 19
shows s stage.Open model = fault 19
shows s stage.Unsatisfiable model = fault 19

-- live clauses, core, hints: the fault of a core. A core with a complementary pair needs no hints; otherwise the clause of its negations
-- has to follow by them
abbrev pub core_fault : ClauseMap → List Literal → List ℕ → Option ℕ
core_fault M core hints = if is_tautology core then None else log_lemma_fault M (map negation core) hints []

-- state, stage, core, hints: the outcome of line `u`, which closes a query whose status is unsatisfiable; the core has to fail, and its
-- literals have to be the query's
abbrev pub fails : State → Stage → List Literal → List ℕ → Taken
fails s stage.Unsatisfiable core hints =
    by_fault (core_fault s.live core hints)
    (if list_all (has s.query) core then Goes (Some (Failed core)) (record s { stage = stage.Between }) else fault 21)
fails s stage.Between core hints = fault 19
fails s stage.Open core hints = fault 19
fails s stage.Satisfiable core hints = fault 19

-- state, what a line says: the outcome of the line
abbrev pub take_line : State → Line → Taken
take_line s (Gives id C) = gives s id C
take_line s (Asks A) = asks s A
take_line s (Learns id C hints) = learns s id C hints
take_line s (Deletes ids) = deletes s ids
take_line s (Says word) = says s s.stage word
take_line s (Shows model) = shows s s.stage model
take_line s (Fails core hints) = fails s s.stage core hints
take_line s Silent = Goes None s

-- state, line as read: the outcome of the line; fault 1 if it cannot be read
abbrev pub take_read : State → Read → Taken
take_read s (Ok line) = take_line s line
take_read s (Err fault) = Faulty 1 (fault_number fault)

-- ---- texts
-- the answers of a text before its first fault, and that fault; None if the text has none
pub record Outcome : Type 0 where
  pub answers : List Answer
  pub fault : Option CheckFault

-- line number (from 1), number of the fault, number of the fault of the text: a fault, before which no answer stands
abbrev pub stopped : ℕ → ℕ → ℕ → Outcome
stopped line number text = record { answers = []; fault = Some (record { number = number; line = line; text = text }) }

-- these answers, and then those of the outcome
abbrev pub behind : List Answer → Outcome → Outcome
behind told o = record o { answers = told ++ o.answers }

-- the list of the answer, if there is one
abbrev pub listed : Option Answer → List Answer
listed None = []
listed (Some answer) = answer ∷ []

-- the two events are the same: the same literals in the same order
abbrev pub is_event : Event → Event → Bool
is_event (Given C) (Given D) = is_clause C D
is_event (Asked A) (Asked B) = is_clause A B
is_event (Given C) (Asked B) = false
is_event (Asked A) (Given D) = false

-- event, line number (from 1), events left, `later`: the first event left has to be this one, and then the text goes on as `later` says;
-- else fault 18
abbrev pub awaited : Event → ℕ → List Event → (List Event → Outcome) → Outcome
awaited e line [] later = stopped line 18 0
awaited e line (d ∷ E) later = if is_event e d then later E else stopped line 18 0

-- outcome of a line, line number (from 1), events left before the line, `later`: what the text answers from this line on
abbrev pub going_on : Taken → ℕ → List Event → (State → List Event → Outcome) → Outcome
going_on (Goes answer t) line E later = behind (listed answer) (later t E)
going_on (Awaits e t) line E later = awaited e line E (λ D. later t D)
going_on (Faulty number text) line E later = stopped line number text

-- line number (from 1), events left: the end of a text; an event that is left is fault 22
abbrev pub by_left : ℕ → List Event → Outcome
by_left line [] = record { answers = []; fault = None }
by_left line (e ∷ E) = stopped line 22 0

-- state, line number (from 1), events left, bytes after the last LF: the end of a text; there may be no bytes, no open query and no event
-- left
abbrev pub end_of : State → ℕ → List Event → List ℕ → Outcome
end_of s line E [] = if is_between s.stage then by_left line E else stopped line 22 0
end_of s line E (b ∷ bs) = stopped line 1 2

-- the greatest variable of a line: 2,000,000, or twice the variables that the events may have if that is more
abbrev pub lines_top : Limits → ℕ
lines_top L = max 2000000 (2 * L.vars)

-- state, line number (from 1), events left, first piece, other pieces: what the text of these pieces between LFs answers; the first piece
-- is the line of this number, and the last piece stands after the last LF
unfoldable pub pieces_from : State → ℕ → List Event → List ℕ → List (List ℕ) → Outcome
pieces_from s line E piece [] = end_of s line E piece
pieces_from s line E piece (next ∷ pieces) = going_on (take_read s (line_within (lines_top s.limits) piece)) line E (λ t D. pieces_from t (line + 1) D next pieces)

-- state, line number (from 1), events left, pieces between LFs: what the text answers from here on; a text has at least one piece
unfoldable pub text_from : State → ℕ → List Event → List (List ℕ) → Outcome
text_from s line E [] = end_of s line E []
text_from s line E (piece ∷ pieces) = pieces_from s line E piece pieces

-- the state before the first line of a proof beside events within the limits
abbrev pub begun : Limits → State
begun L = record { limits = L; given = []; live = from_entries []; last = 0; stage = stage.Between; query = [] }

-- limits, events, text of a proof: the answers of the text beside these events, up to its first fault
abbrev pub session_within : Limits → List Event → List ℕ → Outcome
session_within L E text = text_from (begun L) 1 E (lines text)
