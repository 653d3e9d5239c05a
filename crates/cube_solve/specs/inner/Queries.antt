-- Queries of a session: results, cores, and the clauses that hold.
use Rattle.std.specs.Prelude.{◌≡◌, ℕ, ◌+◌, ◌*◌, ◌<◌, Bool, List, ◌⊎◌, length, slice_index_or, All, Contains}
use Rattle.std.specs.List.{IsDistinct}
use Rattle.dimacs.specs.logic.ClauseMap.{Live}
use Rattle.dimacs.specs.logic.Literal.{Literal, Clause, IsTautology, IsTrueIn, IsWithin, index_of, negation, same}
use Rattle.dimacs.specs.logic.Propagation.{Rup}
use Rattle.clause_arena.specs.Clauses.{Clauses, live_of}
use Rattle.conflict_analysis.specs.declared.lemma.Lemma.{Lemma}
use Rattle.lrat_text.specs.Grammar.{IsClauseNumber}
use Rattle.lrat_text.specs.Log.{Cube}
use Rattle.watches.specs.Law.{NoneFalseOrUnit}
use Rattle.watches.specs.Trails.{TrailValue, holds}
use Rattle.cube_solve.specs.Conflicts.{AllHold}
use Rattle.cube_solve.specs.Subsequences.{IsSubsequenceOf}
use Rattle.cube_solve.specs.inner.Twins.{AreTwins}
use Rattle.cube_solve.specs.inner.State.{IsTotal}
use Rattle.cube_solve.specs.declared.query.QueryResult.{QueryResult}
use Rattle.cube_solve.specs.declared.query.QueryResult.TheVariants as sought
use Rattle.cube_solve.specs.declared.marks.Marks.{Marks}

-- the marks have a stamp for each literal of the variables from 1 to `vars`, none above the present one
pub record AreStamped (vars : ℕ) (m : Marks) : Type 0 where
  pub sized : length m.stamps.items ≡ 2 * vars + 2
  pub bounded : All (λ s. s < m.stamp + 1) m.stamps.items

-- a lemma's property: it is a clause of negations of the query's literals, which is a tautology or follows by its hints
pub record RefutesQuery (live : Live) (vars : ℕ) (q : Cube) (lemma : Lemma) : Type 0 where
  pub follows : IsTautology lemma.lits.items ⊎ Rup live lemma.lits.items lemma.hints.items
  pub negates : (l : Literal) → Contains lemma.lits.items l → Contains q (negation l)
  pub within : All (IsWithin vars) lemma.lits.items
  pub numbers : All IsClauseNumber lemma.hints.items

-- a literal's property: it has the present stamp of the marks
abbrev pub IsMarked : Marks → Literal → Type 0
IsMarked m l = slice_index_or m.stamps.items (index_of l) 0 ≡ m.stamp

-- the live clauses and F: each clause of F is live and no lemma, and each live clause follows from F
pub record HasClauses (F : List Clause) (live : Live) (lemmas : List ℕ) : Type 0 where
  pub there : (C : Clause) → Contains F C → (n : ℕ) × (D : Clause) × live n D × AreTwins C D × ¬ (Contains lemmas n)
  pub follow : (a : ℕ → Bool) → All (IsTrueIn a) F → (n : ℕ) (D : Clause) → live n D → IsTrueIn a D

-- a result's property: it is right for the clauses m, the trail t and the query q
abbrev pub IsQueryResult : Clauses → TrailValue → Cube → QueryResult → Type 0
IsQueryResult m t q sought.Model = NoneFalseOrUnit (live_of m) (holds t.entries) × AllHold t.entries q × IsTotal m t
IsQueryResult m t q (sought.Failed lemma) = RefutesQuery (live_of m) t.vars q lemma
IsQueryResult m t q sought.Limit = Unit {0}

-- P holds if the result is that the limit was reached
abbrev pub IfLimit : QueryResult → Type 0 → Type 0
IfLimit sought.Model P = Unit {0}
IfLimit (sought.Failed lemma) P = Unit {0}
IfLimit sought.Limit P = P

-- the core has exactly the literals of the query q whose negations are in the clause
pub record ArePicked (q : Cube) (lits : Clause) (core : List Literal) : Type 0 where
  pub within : (l : Literal) → Contains core l → Contains q l
  pub only : (l : Literal) → Contains core l → Contains lits (negation l)
  pub all : (l : Literal) → Contains q l → Contains lits (negation l) → Contains core l
  pub part : IsSubsequenceOf core q
  pub distinct : IsDistinct same q → IsDistinct same core
