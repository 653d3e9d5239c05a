-- The log of a session: its lines say which clauses are live after each call.
use Rattle.std.specs.Prelude.{◌≡◌, ℕ, ◌+◌, ◌<◌, ◌≤◌, List, [], ◌∷◌, ◌++◌, ◌⊎◌, length, map, nat_eq, All, Contains, IsSome}
use Rattle.std.specs.FinMap.{get}
use Rattle.std.specs.List.{IsDistinct}
use Rattle.dimacs.specs.logic.ClauseMap.{ClauseMap, live_in}
use Rattle.dimacs.specs.logic.Cnf.{assignment_of}
use Rattle.dimacs.specs.logic.Literal.{Literal, Clause, IsTautology, IsTrueIn, IsWithin, negation}
use Rattle.dimacs.specs.logic.Propagation.{Rup}
use Rattle.lrat_text.specs.Grammar.{IsClauseNumber, IsStepWithin}
use Rattle.lrat_text.specs.Log.{Cube, after_step, top_after}
use Rattle.lrat_text.specs.Runs.{after_steps, text_of, top_of}
use Rattle.lrat_text.specs.declared.step.Step.{Step}
use Rattle.lrat_text.specs.declared.step.Step.TheVariants.{Add, Delete}
use Rattle.cube_solve.specs.Session.{AllTrue, last_of, live_in_session, log_of, vars_of}
use Rattle.cube_solve.specs.declared.answer.Answer.{Answer}
use Rattle.cube_solve.specs.declared.answer.Answer.TheVariants as answer
use Rattle.cube_solve.specs.declared.session.Session.{Session}
use Rattle.cube_solve.specs.Subsequences.{IsSubsequenceOf}
use Rattle.cube_solve.specs.inner.Twins.{AreLinked}

-- a step is right if the clauses of M are live, `top` is the greatest clause number so far, and `given` are the numbers of given clauses:
-- it adds a lemma under the next number, which follows by reverse unit propagation; or it deletes live clauses, each named once and none of
-- them given, in a line that begins with some clause number
abbrev pub IsRightStep : List ℕ → ClauseMap → ℕ → Step → Type 0
IsRightStep given M top (Add id lits hints groups) = (id ≡ top + 1) × (groups ≡ []) × Rup (live_in M) lits hints
IsRightStep given M top (Delete ids) = IsClauseNumber top × All (λ id. ¬ (Contains given id)) ids × All (λ id. IsSome (get M id)) ids × IsDistinct nat_eq ids

-- each step is right after those before it, and within the limits of lines with variables up to `most`
abbrev pub AreRightSteps : ℕ → List ℕ → ClauseMap → ℕ → List Step → Type 0
AreRightSteps most given M top [] = Unit {0}
AreRightSteps most given M top (step ∷ steps) =
    IsStepWithin most step × IsRightStep given M top step × AreRightSteps most given (after_step M step) (top_after top step) steps

-- a core fails if the clauses of M are live: it has a literal and its negation, or the clause of its negations follows by the hints
abbrev pub IsFailure : ClauseMap → List Literal → List ℕ → Type 0
IsFailure M core hints = IsTautology core ⊎ Rup (live_in M) (map negation core) hints

module _ {P : Type 0} where
  -- a session's property: its live clauses are those of M, each perhaps with its literals in another order, and those of the numbers
  -- `given` are no lemmas
  pub record IsKnown (given : List ℕ) (M : ClauseMap) (s : Session P) : Type 0 where
    pub linked : AreLinked (live_in M) (live_in_session s)
    pub before : (n : ℕ) → Contains given n → n ≤ last_of s
    pub apart : (n : ℕ) → Contains given n → ¬ (Contains s.search.lemmas.items n)

-- each of the numbers `more` is one of `given`, or is above `last` and at most `top`
abbrev pub AreOrLeftOut : ℕ → ℕ → List ℕ → List ℕ → Type 0
AreOrLeftOut last top given more = (n : ℕ) → Contains more n → Contains given n ⊎ ((last < n) × (n ≤ top))

-- the log grew, from session `old` to `new`, by the lines of right steps over the clauses of M and the session's variables; the live
-- clauses of `new` are those after the steps
pub record LogGrowsFrom {P : Type 0} (given : List ℕ) (M : ClauseMap) (old new : Session P) : Type 0 where
  pub steps : List Step
  pub vars : vars_of new ≡ vars_of old
  pub right : AreRightSteps (vars_of old) given M (last_of old) steps
  pub text : log_of new ≡ log_of old ++ text_of (last_of old) steps
  pub last : last_of new ≡ top_of (last_of old) steps
  pub known : IsKnown given (after_steps M steps) new

-- the log grew by right steps, whatever clauses M were known to be live before
abbrev pub LogGrows : {P : Type 0} → Session P → Session P → Type 0
LogGrows old new = (given : List ℕ) (M : ClauseMap) → IsKnown given M old → LogGrowsFrom given M old new

-- an answer's ranges: a solution has a truth value for each of the variables from 1 to `vars`; a core has literals of these variables, and
-- hints that are clause numbers
abbrev pub IsOver : ℕ → Answer → Type 0
IsOver vars (answer.Satisfied values) = length values ≡ vars
IsOver vars (answer.Failed failure) = All (IsWithin vars) failure.core.items × All IsClauseNumber failure.hints.items
IsOver vars answer.Unknown = Unit {0}

-- an answer's property: whatever clauses are known to be live in the session, its core fails over them
abbrev pub HasFailed : {P : Type 0} → Answer → Session P → Type 0
HasFailed (answer.Satisfied values) s = Unit {0}
HasFailed (answer.Failed failure) s = (given : List ℕ) (M : ClauseMap) → IsKnown given M s → IsFailure M failure.core.items failure.hints.items
HasFailed answer.Unknown s = Unit {0}

-- an answer's property, whatever clauses there are: a solution makes each literal of the query A true; a core has literals of A, in their
-- order
abbrev pub FitsQuery : Cube → Answer → Type 0
FitsQuery A (answer.Satisfied values) = AllTrue (assignment_of values) A
FitsQuery A (answer.Failed failure) = IsSubsequenceOf failure.core.items A
FitsQuery A answer.Unknown = Unit {0}

-- an answer's property: whatever clauses are known to be live in the session, a solution makes them true
abbrev pub SatisfiesLive : {P : Type 0} → Answer → Session P → Type 0
SatisfiesLive (answer.Satisfied values) s =
    (given : List ℕ) (M : ClauseMap) → IsKnown given M s → (n : ℕ) (C : Clause) → live_in M n C → IsTrueIn (assignment_of values) C
SatisfiesLive (answer.Failed failure) s = Unit {0}
SatisfiesLive answer.Unknown s = Unit {0}
