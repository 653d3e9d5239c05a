-- The history of a session: its events (clauses and queries), its answers, and the text that proves them.
use Rattle.std.specs.Prelude.{◌≡◌, ℕ, ◌+◌, ◌≤◌, Bool, true, false, List, [], ◌∷◌, ◌++◌, None, All, Contains}
use Rattle.dimacs.specs.logic.ClauseMap.{live_in}
use Rattle.dimacs.specs.logic.Limits.{AreNoMore, Limits, large}
use Rattle.dimacs.specs.logic.Literal.{Literal, Pos, Neg, Clause, IsWithin}
use Rattle.dimacs.specs.text.Words.{lines}
use Rattle.clause_arena.specs.Clauses.{Clauses}
use Rattle.watches.specs.Trails.{TrailValue}
use Rattle.cube_solve.specs.Session.{IsReady, AreGiven, last_of, log_of, vars_of}
use Rattle.cube_solve.specs.SessionLog.{IsKnown}
use Rattle.cube_solve.specs.declared.answer.Answer.TheVariants as answer
use Rattle.cube_solve.specs.declared.answer.Answer as cube
use Rattle.sessions.specs.Answers.{Event, Answer, Satisfied, Failed, Unknown}
use Rattle.sessions.specs.Events.{clauses_of}
use Rattle.sessions.specs.Texts.{State, behind, is_between, session_within, text_from}
use Rattle.incremental.specs.declared.proved_session.Session.{Session}

-- ---- answers
-- the literal of the variable v that is true if the variable has this value
abbrev pub literal_of : ℕ → Bool → Literal
literal_of v true = Pos v
literal_of v false = Neg v

-- the true literals of the variables from v on, which have these values
abbrev pub literals_from : ℕ → List Bool → List Literal
literals_from v [] = []
literals_from v (value ∷ values) = literal_of v value ∷ literals_from (v + 1) values

-- an answer as the text has it: the literals that the assignment makes true, or the core, or neither
abbrev pub told_of : cube.Answer → Answer
told_of (answer.Satisfied values) = Satisfied (literals_from 1 values)
told_of (answer.Failed failure) = Failed failure.core.items
told_of answer.Unknown = Unknown

-- the answers of a text, in order
abbrev pub Told : Type 0
Told = List Answer

-- limits, events, answers, text: the text is accepted beside these events, within the limits, with these answers
abbrev pub IsAccepted : Limits → List Event → List Answer → List ℕ → Type 0
IsAccepted L E told text = session_within L E text ≡ record { answers = told; fault = None }

-- limits, events, answers, text, state, number of the line (from 1): a reader of this text beside these events, within the limits, has read
-- these answers, and goes on from this state at this line
abbrev pub Reaches : Limits → List Event → List Answer → List ℕ → State → ℕ → Type 0
Reaches L E told text reader line = (D : List Event) (more : List ℕ) → session_within L (E ++ D) (text ++ more) ≡ behind told (text_from reader line D (lines more))

module _ {P : Type 0} where
  -- how many variables the session has
  abbrev pub vars_in : Session P → ℕ
  vars_in s = vars_of s.search

  -- the greatest number of a clause so far, given or learnt: each clause takes the next number
  abbrev pub last_in : Session P → ℕ
  last_in s = last_of s.search

  -- the invariant of a session between two calls
  abbrev pub IsSessionReady : (P → Clauses → TrailValue → Type 0) → (P → List ℕ) → Session P → Type 0
  IsSessionReady is_ready attached s = IsReady is_ready attached s.search

  -- limits L, events E, answers, bytes of the text that are already handed out, the session: a reader of these bytes, and then of those not
  -- handed out yet, beside E within L, has read these answers, and knows which clauses are live
  pub record HasHistory (L : Limits) (E : List Event) (told : List Answer) (text : List ℕ) (s : Session P) : Type 0 where
    pub valid : AreNoMore L large
    pub few : vars_in s ≤ L.vars
    pub given : AreGiven (clauses_of E) s.search
    pub within : All (All (IsWithin (vars_in s))) (clauses_of E)
    pub told_all : log_of s.search ≡ []
    pub reader : State
    pub limits : reader.limits ≡ L
    pub line : ℕ
    pub between : is_between reader.stage ≡ true
    pub last : reader.last ≡ last_in s
    pub known : IsKnown reader.given reader.live s.search
    pub named : (n : ℕ) → Contains reader.given n → (C : Clause) × live_in reader.live n C × Contains (clauses_of E) C
    pub reads : (D : List Event) (more : List ℕ) → session_within L (E ++ D) (text ++ (s.out.items ++ more)) ≡ behind told (text_from reader line D (lines more))
