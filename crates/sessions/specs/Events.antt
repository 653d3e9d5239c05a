-- The events that a text lists, or its first fault.
use Rattle.std.specs.Prelude.{◌≡◌, ℕ, ◌+◌, ◌≤◌, ◌==◌, nat_lt, nat_le, Bool, false, true, List, [], ◌∷◌, ◌++◌, All, length, map, ℤ, nat_abs, Option, Some, None, Result, Ok, codes, bytes_eq, if◌then◌else◌}
use Rattle.dimacs.specs.logic.Cnf.{literal_count}
use Rattle.dimacs.specs.logic.Limits.{Limits}
use Rattle.dimacs.specs.logic.Literal.{Literal, Clause, IsWithin, literal_of_number}
use Rattle.dimacs.specs.text.Numbers.{number}
use Rattle.dimacs.specs.text.Rows.{◌>>=◌, by_tokens}
use Rattle.dimacs.specs.text.Grammar.{ended}
use Rattle.dimacs.specs.text.Words.{lines, words_of}
use Rattle.icnf.specs.Parser as icnf
use Rattle.icnf.specs.Parser.{read_header}
use Rattle.icnf.specs.Grammar.{IsHeader}
use Rattle.icnf.specs.declared.fault.IcnfFault.{IcnfFault}
use Rattle.icnf.specs.declared.fault.Kind.TheVariants.{NoHeader, BadToken, ClauseNotEnded, AboveLimit}
use Rattle.lrat_text.specs.Log.{Cube}
use Rattle.sessions.specs.Answers.{Event, Given, Asked}

-- ---- the grammar
-- the clauses that the events give, in order
abbrev pub clauses_of : List Event → List Clause
clauses_of [] = []
clauses_of (Given C ∷ E) = C ∷ clauses_of E
clauses_of (Asked A ∷ E) = clauses_of E

-- the literals of an event
abbrev pub literals_of : Event → List Literal
literals_of (Given C) = C
literals_of (Asked A) = A

-- a query has at most this many literals
abbrev pub IsShort : ℕ → Event → Type 0
IsShort most (Given C) = Unit {0}
IsShort most (Asked A) = length A ≤ most

-- the events are within limits: a query has at most as many literals as there may be variables
pub record AreEventsWithin (L : Limits) (E : List Event) : Type 0 where
  pub clauses : length (clauses_of E) ≤ L.clauses
  pub literals : literal_count (clauses_of E) ≤ L.literals
  pub within : All (λ e. All (IsWithin L.vars) (literals_of e)) E
  pub short : All (IsShort L.vars) E

-- the tokens of a line spell the event: the literals of a clause and 0; or the word `a`, the literals of a query and 0
abbrev pub SpellsEvent : List (List ℕ) → Event → Type 0
SpellsEvent tokens (Given C) = map number tokens ≡ map Some (ended C)
SpellsEvent [] (Asked A) = ⊥
SpellsEvent (word ∷ tokens) (Asked A) = (word ≡ codes "a") × (map number tokens ≡ map Some (ended A))

-- tokens of a line, events, `later`: the line spells the first of the events, and `later` holds of the others
abbrev pub IsNext : List (List ℕ) → List Event → (List Event → Type 0) → Type 0
IsNext tokens [] later = ⊥
IsNext tokens (e ∷ E) later = SpellsEvent tokens e × later E

-- the lines after the header spell the events: a line without a token is passed over, and any other spells an event
abbrev pub AreLines : List (List ℕ) → List Event → Type 0
AreLines [] [] = Unit {0}
AreLines [] (e ∷ E) = ⊥
AreLines (line ∷ more) E = by_tokens (words_of line) (AreLines more E) (λ tokens. IsNext tokens E (λ D. AreLines more D))

-- the first line with a token is the header, and the lines after it spell the events
abbrev pub AreHeaded : List (List ℕ) → List Event → Type 0
AreHeaded [] E = ⊥
AreHeaded (line ∷ more) E = by_tokens (words_of line) (AreHeaded more E) (λ header. IsHeader header × AreLines more E)

-- the text spells the events, which are within the limits
abbrev pub SpellsWithin : Limits → List ℕ → List Event → Type 0
SpellsWithin L text E = AreEventsWithin L E × AreHeaded (lines text) E

-- ---- reading
-- what was read of the lines so far: whether the header was read, and how many clauses and literals of clauses; and the limits
pub record Progress : Type 0 where
  pub limits : Limits
  pub headed : Bool
  pub clauses : ℕ
  pub literals : ℕ

-- what was read of a line: its literals, and whether the 0 was read
pub record LineRead : Type 0 where
  pub literals : List Literal
  pub ended : Bool

-- nothing of a line was read
abbrev pub nothing_read : LineRead
nothing_read = record { literals = []; ended = false }

-- greatest variable, line number (from 1), number z, what was read of the line before: z is read as a literal, or as the 0
abbrev pub read_number : ℕ → ℕ → ℤ → LineRead → Result LineRead IcnfFault
read_number most line z r =
    if nat_abs z == 0 then Ok (record r { ended = true })
    else if nat_lt most (nat_abs z) then icnf.fault AboveLimit line
    else Ok (record r { literals = r.literals ++ literal_of_number z ∷ [] })

-- greatest variable, line number (from 1), number of a token, what was read of the line before: the number is read; a token without a
-- number is a fault
abbrev pub read_found : ℕ → ℕ → Option ℤ → LineRead → Result LineRead IcnfFault
read_found most line None r = icnf.fault BadToken line
read_found most line (Some z) r = read_number most line z r

-- greatest variable, line number (from 1), token, what was read of the line before: the token is read; after the 0 no token may stand
unfoldable pub read_token : ℕ → ℕ → List ℕ → LineRead → Result LineRead IcnfFault
read_token most line word r = if r.ended then icnf.fault ClauseNotEnded line else read_found most line (number word) r

-- greatest variable, line number (from 1), tokens, what was read of the line before: the tokens are read, up to the first fault
unfoldable pub read_tokens : ℕ → ℕ → List (List ℕ) → LineRead → Result LineRead IcnfFault
read_tokens most line [] r = Ok r
read_tokens most line (word ∷ more) r = read_token most line word r >>= read_tokens most line more

-- the literals of a line that ends here; its 0 has to be read
abbrev pub end_line : ℕ → LineRead → Result (List Literal) IcnfFault
end_line line r = if r.ended then Ok r.literals else icnf.fault ClauseNotEnded line

-- the literals, with variables up to `most`, that the tokens of the line of this number (from 1) spell, or its first fault
abbrev pub literals_in : ℕ → ℕ → List (List ℕ) → Result (List Literal) IcnfFault
literals_in most line tokens = read_tokens most line tokens nothing_read >>= end_line line

-- the outcome of a line: what was read of the lines so far, and the line's event, if it has one; or the line's fault
abbrev pub Row : Type 0
Row = Result (Progress × Option Event) IcnfFault

-- line number (from 1), what was read of the lines before, query: the outcome of the line of a query
abbrev pub put_query : ℕ → Progress → Cube → Row
put_query line p A = if nat_lt p.limits.vars (length A) then icnf.fault AboveLimit line else Ok (p, Some (Asked A))

-- line number (from 1), what was read of the lines before, clause: the outcome of the line of a clause
abbrev pub put_clause : ℕ → Progress → Clause → Row
put_clause line p C =
    if nat_le p.limits.clauses p.clauses then icnf.fault AboveLimit line
    else if nat_lt p.limits.literals (p.literals + length C) then icnf.fault AboveLimit line
    else Ok (record p { clauses = p.clauses + 1; literals = p.literals + length C }, Some (Given C))

-- line number (from 1), first token, other tokens, what was read of the lines before: the outcome of the line of an event
abbrev pub read_event : ℕ → List ℕ → List (List ℕ) → Progress → Row
read_event line word more p =
    if bytes_eq word (codes "a") then (literals_in p.limits.vars line more >>= put_query line p)
    else (literals_in p.limits.vars line (word ∷ more) >>= put_clause line p)

-- line number (from 1), tokens, what was read of the lines before: the outcome of the line
unfoldable pub read_row : ℕ → List (List ℕ) → Progress → Row
read_row line [] p = Ok (p, None)
read_row line (word ∷ more) p =
    if p.headed then read_event line word more p else (read_header line (word ∷ more) >>= λ h. Ok (record p { headed = true }, None))

-- the event of a line, if it has one, and then those of the later lines; or the first fault
abbrev pub with_event : Option Event → Result (List Event) IcnfFault → Result (List Event) IcnfFault
with_event None later = later
with_event (Some e) later = later >>= λ E. Ok (e ∷ E)

-- number of lines before, lines, what was read of the lines before: the events of the lines, or the first fault
unfoldable pub read_lines : ℕ → List (List ℕ) → Progress → Result (List Event) IcnfFault
read_lines n [] p = if p.headed then Ok [] else icnf.fault NoHeader n
read_lines n (line ∷ more) p = read_row (n + 1) (words_of line) p >>= λ r. with_event r.1 (read_lines (n + 1) more r.0)

-- nothing was read of a text within the limits
abbrev pub start : Limits → Progress
start L = record { limits = L; headed = false; clauses = 0; literals = 0 }

-- the events of a text within the limits, or its first fault
abbrev pub events_within : Limits → List ℕ → Result (List Event) IcnfFault
events_within L text = read_lines 0 (lines text) (start L)
