-- Sessions: clauses that are given, and answers of the queries between them.
use Rattle.std.specs.Prelude.{◌≡◌, ℕ, ◌+◌, ◌^◌, ◌≤◌, Bool, true, List, length, All, Contains}
use Rattle.std.specs.List.{IsDistinct}
use Rattle.dimacs.specs.logic.Cnf.{assignment_of}
use Rattle.dimacs.specs.logic.ClauseMap.{Live}
use Rattle.dimacs.specs.logic.Literal.{Literal, Clause, IsTrueIn, literal_true, same}
use Rattle.clause_arena.specs.Clauses.{Clauses, live_of}
use Rattle.lrat_text.specs.Log.{Cube}
use Rattle.watches.specs.Trails.{TrailValue}
use Rattle.cube_solve.specs.inner.Reduction.{AreLemmas}
use Rattle.cube_solve.specs.inner.LearntLog.{AreBelow}
use Rattle.cube_solve.specs.inner.Queries.{AreStamped, HasClauses}
use Rattle.cube_solve.specs.inner.SearchInvariants.{IsSteady}
use Rattle.cube_solve.specs.inner.UnitClauses.{AreNoted}
use Rattle.cube_solve.specs.Subsequences.{IsSubsequenceOf}
use Rattle.cube_solve.specs.declared.answer.Answer.{Answer}
use Rattle.cube_solve.specs.declared.answer.Answer.TheVariants as answer
use Rattle.cube_solve.specs.declared.session.Session.{Session}

-- ---- answers
-- an assignment's property: each of these literals is true under it
abbrev pub AllTrue : (ℕ → Bool) → List Literal → Type 0
AllTrue a ls = (l : Literal) → Contains ls l → literal_true a l ≡ true

-- a solution of a query A: one truth value for each variable, which satisfies the clauses F and makes each literal of the query true
pub record IsSolution (vars : ℕ) (F : List Clause) (A : Cube) (values : List Bool) : Type 0 where
  pub whole : length values ≡ vars
  pub clauses : All (IsTrueIn (assignment_of values)) F
  pub query : AllTrue (assignment_of values) A

-- the core of a query A: literals of the query, in its order and none twice, that no assignment that satisfies the clauses F makes true
-- together
pub record IsCore (F : List Clause) (A : Cube) (core : List Literal) : Type 0 where
  pub within : (l : Literal) → Contains core l → Contains A l
  pub ordered : IsSubsequenceOf core A
  pub distinct : IsDistinct same core
  pub fails : (a : ℕ → Bool) → All (IsTrueIn a) F → ¬ (AllTrue a core)

-- an answer's property: it is right for the query A if F are the clauses so far, over the variables from 1 to `vars`
abbrev pub IsRightAnswer : ℕ → List Clause → Cube → Answer → Type 0
IsRightAnswer vars F A (answer.Satisfied values) = IsSolution vars F A values
IsRightAnswer vars F A (answer.Failed failure) = IsCore F A failure.core.items
IsRightAnswer vars F A answer.Unknown = Unit {0}

-- P holds if the answer is that the limit was reached
abbrev pub IfUnknown : Answer → Type 0 → Type 0
IfUnknown (answer.Satisfied values) P = Unit {0}
IfUnknown (answer.Failed failure) P = Unit {0}
IfUnknown answer.Unknown P = P

-- the clause follows from the clauses F: every assignment that satisfies them makes it true
abbrev pub FollowsFrom : List Clause → Clause → Type 0
FollowsFrom F C = (a : ℕ → Bool) → All (IsTrueIn a) F → IsTrueIn a C

-- ---- the value of a session
module _ {P : Type 0} where
  -- the number of a session's variables
  abbrev pub vars_of : Session P → ℕ
  vars_of s = s.search.state.trail.vars

  -- the greatest number of a clause so far, given or learnt: each clause takes the next number
  abbrev pub last_of : Session P → ℕ
  last_of s = s.top

  -- the text of a session's log: its lemmas and deletions since the log was last taken, or since the beginning
  abbrev pub log_of : Session P → List ℕ
  log_of s = s.search.log

  -- the live clauses of a session, given or learnt
  abbrev pub live_in_session : Session P → Live
  live_in_session s = live_of s.search.state.arena

  -- the invariant of a session between two calls
  pub record IsReady (is_ready : P → Clauses → TrailValue → Type 0) (attached : P → List ℕ) (s : Session P) : Type 0 where
    pub steady : IsSteady is_ready attached s.search.state
    pub below : AreBelow (s.top + 1) (live_in_session s)
    pub lemmas : AreLemmas 0 (live_in_session s) s.search.lemmas.items
    pub noted : AreNoted (live_in_session s) s.search.units.numbers.items
    pub few : vars_of s ≤ 199999999
    pub bounded : s.top ≤ 2 ^ 47
    pub stamped : AreStamped (vars_of s) s.marks

  -- a session's property: F are the clauses that were given
  abbrev pub AreGiven : List Clause → Session P → Type 0
  AreGiven F s = HasClauses F (live_in_session s) s.search.lemmas.items

  -- a session's property: the clause of this number is a lemma, its own or one that it was lent, so that it may be deleted
  abbrev pub IsLemma : Session P → ℕ → Type 0
  IsLemma s number = Contains s.search.lemmas.items number
