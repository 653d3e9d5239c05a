-- A session that searches under one leaf after the other.
use Rattle.std.specs.Prelude.{◌≡◌, ℕ, ◌+◌, ◌<◌, ◌≤◌, Bool, true, false, ◌&&◌, List, [], ◌∷◌, ◌++◌, Option, Some, None, length, All, Contains}
use Rattle.std.specs.List.{list_all}
use Rattle.cube_solve.specs.Outcome.{IsModel}
use Rattle.cube_solve.specs.Session.{AreGiven, last_of, log_of, vars_of}
use Rattle.cube_solve.specs.SessionLog.{IsFailure, IsKnown}
use Rattle.cube_solve.specs.declared.answer.Answer.{Answer}
use Rattle.cube_solve.specs.declared.answer.Answer.TheVariants as answer
use Rattle.dimacs.specs.logic.ClauseMap.{ClauseMap, live_in, map_of}
use Rattle.dimacs.specs.logic.Cnf.{Cnf}
use Rattle.dimacs.specs.logic.Literal.{Clause, Literal, IsWithin}
use Rattle.log_join.specs.ClosedLeaves.{closes}
use Rattle.icnf.specs.Leaves.{Cube}
use Rattle.leaves.specs.Leaf.{leaf_at}
use Rattle.leaves.specs.LeafSearch.{closed_line, limit_line, shown}
use Rattle.leaves.specs.BlockSearch.{AreSearched, SearchEnd, Closed, Limit, IsSearchEnd, all_parts, search_lines, is_closed, own_part, search_line}
use Rattle.leaves.specs.declared.leaf_search.SearchOptions as settings
use Rattle.leaves.specs.declared.search_session.Found.{Found}
use Rattle.leaves.specs.declared.search_session.Found.TheVariants as found
use Rattle.leaves.specs.declared.search_session.SearchSession.{SearchSession}
use Rattle.leaves.specs.declared.block_search.BlockSearch.{BlockSearch}
use Rattle.lrat_text.specs.Grammar.{IsClauseNumber, LineSpellsWithin}
use Rattle.lrat_text.specs.Log.{IsLog, additions, log_top}
use Rattle.lrat_text.specs.Runs.{after_steps, top_of}
use Rattle.lrat_text.specs.declared.step.Step.{Step}

-- ---- leaves that are closed
-- cube of the leaf, clauses, end of its search: if the search has closed the leaf, one of the clauses closes it
abbrev pub IsClosedBy : Option Cube → List Clause → SearchEnd → Type 0
IsClosedBy None closing (Closed own) = ⊥
IsClosedBy (Some q) closing (Closed own) = (C : Clause) × Contains closing C × (closes q C ≡ true)
IsClosedBy q closing (Limit own) = Unit {0}

-- cubes of the leaves, clauses, number `n` (from 1), ends of the searches from the leaf `n` on: one of the clauses closes each leaf that
-- its search has closed
abbrev pub AreClosedBy : List Cube → List Clause → ℕ → List SearchEnd → Type 0
AreClosedBy leaves closing n [] = Unit {0}
AreClosedBy leaves closing n (e ∷ endings) = IsClosedBy (leaf_at leaves n) closing e × AreClosedBy leaves closing (n + 1) endings

-- ---- a session and its log
module _ {P : Type 0} where
  -- formula, clauses `closing`, steps, the session: the log has these steps over the formula. The session has the clauses that are live
  -- after these steps, and was given the formula's clauses; each of the clauses `closing` is a lemma that is never deleted
  pub record HasSearched (F : Cnf) (closing : List Clause) (steps : List Step) (s : SearchSession P) : Type 0 where
    pub given : List ℕ
    pub vars : vars_of s.session ≡ F.vars
    pub spells : LineSpellsWithin (log_top F) s.log steps
    pub is_log : IsLog F steps
    pub last : last_of s.session ≡ top_of (length F.clauses) steps
    pub taken : log_of s.session ≡ []
    pub known : IsKnown given (after_steps (map_of F) steps) s.session
    pub held : AreGiven (F.clauses ++ closing) s.session
    pub first : (n : ℕ) → 0 < n → n ≤ length F.clauses → Contains given n
    pub lives : (C : Clause) → Contains closing C → (id : ℕ) × Contains given id × (length F.clauses < id) × live_in (after_steps (map_of F) steps) id C

-- the core of a failure and its hints are within the limits of a line
abbrev pub IsWithinLineLimits : ℕ → Answer → Type 0
IsWithinLineLimits vars (answer.Satisfied values) = Unit {0}
IsWithinLineLimits vars (answer.Failed failure) = All (IsWithin vars) failure.core.items × All IsClauseNumber failure.hints.items
IsWithinLineLimits vars answer.Unknown = Unit {0}

-- formula, cube, limit, map of the live clauses, `count` of the query's lemmas, the answer: the answer is right for the cube
abbrev pub AnswerIsRight : Cnf → Cube → ℕ → ClauseMap → ℕ → Answer → Type 0
AnswerIsRight F q limit M count (answer.Satisfied values) = IsModel F q values
AnswerIsRight F q limit M count (answer.Failed failure) = IsFailure M failure.core.items failure.hints.items × ((l : Literal) → Contains failure.core.items l → Contains q l) × (count ≤ limit)
AnswerIsRight F q limit M count answer.Unknown = count ≡ limit

module _ {P : Type 0} where
  -- formula, clauses `closing`, steps before, cube, limit, the answer, the session: a query under the cube has this answer, which is right,
  -- and its own steps are in the log after the steps before
  pub record IsAnswered (F : Cnf) (closing : List Clause) (steps : List Step) (q : Cube) (limit : ℕ) (a : Answer) (new : SearchSession P) : Type 0 where
    pub own : List Step
    pub stands : HasSearched F closing (steps ++ own) new
    pub says : AnswerIsRight F q limit (after_steps (map_of F) (steps ++ own)) (additions own) a

  -- formula, clauses `closing`, steps before, cube, limit, end of the search, the session: the search under the cube has ended with this
  -- end, and the clauses that close the cube are never deleted
  pub record HasEnded (F : Cnf) (closing : List Clause) (steps : List Step) (q : Cube) (limit : ℕ) (e : SearchEnd) (new : SearchSession P) : Type 0 where
    pub more : List Clause
    pub stands : HasSearched F (closing ++ more) (steps ++ own_part e) new
    pub ended : IsSearchEnd limit q e
    pub closed : IsClosedBy (Some q) more e

  -- formula, clauses `closing`, steps before, cube, limit, what was found, the session: an assignment satisfies the formula and the cube;
  -- else the search has ended closed, or at its limit (`HasEnded`)
  abbrev pub HasFound : Cnf → List Clause → List Step → Cube → ℕ → Found → SearchSession P → Type 0
  HasFound F closing steps q limit (found.Model values) new = IsModel F q values
  HasFound F closing steps q limit found.Closed new = (own : List Step) × HasEnded F closing steps q limit (Closed own) new
  HasFound F closing steps q limit found.Limit new = (own : List Step) × HasEnded F closing steps q limit (Limit own) new

  -- ---- one leaf after the other
  -- number of the leaf (from 1), quiet, what was found, the searches before and after, the answer: the answer is the assignment, or else
  -- None, and the line of the leaf is appended
  abbrev pub NotesFound : ℕ → Bool → Found → BlockSearch P → BlockSearch P → Option (List Bool) → Type 0
  NotesFound n quiet (found.Model values) old new told_of = told_of ≡ Some values
  NotesFound n quiet found.Closed old new told_of = (told_of ≡ None) × (new.notes.items ≡ old.notes.items ++ shown quiet (closed_line n)) × (new.closed ≡ old.closed)
  NotesFound n quiet found.Limit old new told_of = (told_of ≡ None) × (new.notes.items ≡ old.notes.items ++ shown quiet (limit_line n)) × (new.closed ≡ false)

  -- formula, clauses `closing`, steps before, cube, number of the leaf (from 1), options, the searches before and after: the search under
  -- the leaf has ended without an assignment, and its line is appended
  pub record EndsLeafSearch (F : Cnf) (closing : List Clause) (steps : List Step) (q : Cube) (n : ℕ) (s : settings.SearchOptions) (old new : BlockSearch P) : Type 0 where
    pub ending : SearchEnd
    pub ended : HasEnded F closing steps q s.limit ending new.searches
    pub notes : new.notes.items ≡ old.notes.items ++ search_line s.quiet n ending
    pub closed : new.closed ≡ (old.closed && is_closed ending)

  -- the positions of `EndsLeafSearch`, and the answer: the search has ended without an assignment, or the answer is one that satisfies the
  -- formula and the cube
  abbrev pub HasSearchedLeaf : Cnf → List Clause → List Step → Cube → ℕ → settings.SearchOptions → BlockSearch P → BlockSearch P → Option (List Bool) → Type 0
  HasSearchedLeaf F closing steps q n s old new None = EndsLeafSearch F closing steps q n s old new
  HasSearchedLeaf F closing steps q n s old new (Some values) = IsModel F q values

  -- formula, cubes of the tree, number of the leaf (from 1), options, the searches before and after, the answer: if there is such a leaf,
  -- it is searched (`HasSearchedLeaf`)
  abbrev pub SearchesLeaf : Cnf → List Cube → ℕ → settings.SearchOptions → BlockSearch P → BlockSearch P → Option (List Bool) → Type 0
  SearchesLeaf F leaves n s old new found =
      (q : Cube) → leaf_at leaves n ≡ Some q → (closing : List Clause) (steps : List Step) → HasSearched F closing steps old.searches → HasSearchedLeaf F closing steps q n s old new found

  -- the leaves from the number `first` to before `n`, from 1, are searched without an assignment
  pub record HasSearchedUpTo (F : Cnf) (leaves : List Cube) (first n : ℕ) (s : settings.SearchOptions) (t : BlockSearch P) : Type 0 where
    pub endings : List SearchEnd
    pub closing : List Clause
    pub stands : HasSearched F closing (all_parts endings) t.searches
    pub searched : AreSearched leaves s.limit first endings
    pub count : first + length endings ≡ n
    pub told_so : t.notes.items ≡ search_lines s.quiet first endings
    pub closed : t.closed ≡ list_all is_closed endings
    pub closes : AreClosedBy leaves closing first endings
