-- The events and the answers of a session, and which answers are right.
use Rattle.std.specs.Prelude.{◌≡◌, ℕ, ◌+◌, Bool, true, List, [], ◌∷◌, ◌++◌, All, Contains}
use Rattle.dimacs.specs.logic.Literal.{Literal, Clause, IsTautology, IsTrueIn, literal_true}
use Rattle.lrat_text.specs.Log.{Cube}
use Rattle.sessions.specs.declared.tally.Tally.{Tally}

-- an event: a clause is given; or a query asks whether some assignment satisfies the clauses given so far and makes these literals true
pub data Event : Type 0 where
  Given : Clause → Event
  Asked : Cube → Event

-- an answer to a query: a model, whose literals such an assignment makes true; a core, which has literals of the query that no such
-- assignment makes all true; or neither
pub data Answer : Type 0 where
  Satisfied : List Literal → Answer
  Failed : List Literal → Answer
  Unknown : Answer

-- the assignment makes each of these literals true
abbrev pub MakesTrue : (ℕ → Bool) → List Literal → Type 0
MakesTrue a ls = (l : Literal) → Contains ls l → literal_true a l ≡ true

-- clauses given, query, model: the model has no literal beside its negation, and every assignment that makes the model true satisfies the
-- clauses and makes the query true
pub record IsModel (F : List Clause) (A : Cube) (model : List Literal) : Type 0 where
  pub no_pair : ¬ (IsTautology model)
  pub clauses : (a : ℕ → Bool) → MakesTrue a model → All (IsTrueIn a) F
  pub query : (a : ℕ → Bool) → MakesTrue a model → MakesTrue a A

-- clauses given, query, core: the core has literals of the query alone, and no assignment that satisfies the clauses makes the core true
pub record IsCore (F : List Clause) (A : Cube) (core : List Literal) : Type 0 where
  pub within : (l : Literal) → Contains core l → Contains A l
  pub fails : (a : ℕ → Bool) → All (IsTrueIn a) F → ¬ (MakesTrue a core)

-- clauses given before the query, query, answer: the answer is right
abbrev pub IsRightAnswer : List Clause → Cube → Answer → Type 0
IsRightAnswer F A (Satisfied model) = IsModel F A model
IsRightAnswer F A (Failed core) = IsCore F A core
IsRightAnswer F A Unknown = Unit {0}

-- clauses F, events that come after them, answers: each answer is right for its query, over F and the clauses that are given before that
-- query; the last queries may be without an answer
abbrev pub AreRight : List Clause → List Event → List Answer → Type 0
AreRight F E [] = Unit {0}
AreRight F [] (answer ∷ answers) = ⊥
AreRight F (Given C ∷ E) (answer ∷ answers) = AreRight (F ++ C ∷ []) E (answer ∷ answers)
AreRight F (Asked A ∷ E) (answer ∷ answers) = IsRightAnswer F A answer × AreRight F E answers

-- how many queries the events have
abbrev pub queries : List Event → ℕ
queries [] = 0
queries (Given C ∷ E) = queries E
queries (Asked A ∷ E) = queries E + 1

-- the tally with one more answer of this answer's kind
abbrev pub one_more : Answer → Tally → Tally
one_more (Satisfied model) t = record t { satisfied = t.satisfied + 1 }
one_more (Failed core) t = record t { failed = t.failed + 1 }
one_more Unknown t = record t { unknown = t.unknown + 1 }

-- the tally with these answers counted as well
abbrev pub counted : Tally → List Answer → Tally
counted t [] = t
counted t (answer ∷ answers) = counted (one_more answer t) answers

-- how many of the answers are of each kind
abbrev pub tally : List Answer → Tally
tally answers = counted (record { satisfied = 0; failed = 0; unknown = 0 }) answers
