-- Clauses, trail and assumptions of a search agree.
use Rattle.std.specs.Prelude.{◌≡◌, ℕ, ◌≤◌, true, List, [], ◌⊎◌, None, Contains}
use Rattle.dimacs.specs.logic.ClauseMap.{Live}
use Rattle.dimacs.specs.logic.Literal.{Literal, Clause, negation}
use Rattle.clause_arena.specs.Clauses.{Clauses, live_of}
use Rattle.conflict_analysis.specs.BuiltTrails.{AreBuilt, AreInside}
use Rattle.watches.specs.Trails.{TrailValue, holds, up_to, present}
use Rattle.watches.specs.declared.trail.Assigned.{Assigned}
use Rattle.cube_solve.specs.Conflicts.{QuietBelow}

-- the attached clauses are the live ones; the trail was built by them, and nothing was left to propagate below its present level
pub record IsState (attached : List ℕ) (m : Clauses) (t : TrailValue) : Type 0 where
  pub all_attached : (n : ℕ) (C : Clause) → live_of m n C → Contains attached n
  pub all_live : (n : ℕ) → Contains attached n → (C : Clause) × live_of m n C
  pub inside : AreInside (live_of m) t.vars
  pub built : AreBuilt (live_of m) [] t.entries
  pub quiet : QuietBelow (live_of m) t.entries

-- the decisions of levels up to k are literals of the cube, its assumptions
abbrev pub AreAssumed : List Literal → List Assigned → ℕ → Type 0
AreAssumed cube entries k = (e : Assigned) → Contains entries e → e.reason ≡ None → e.level ≤ k → Contains cube e.literal

-- the levels up to `assumed` are those of assumptions; if the trail has higher ones, the whole cube is true at these levels
pub record IsAssuming (cube : List Literal) (entries : List Assigned) (assumed : ℕ) : Type 0 where
  pub decided : AreAssumed cube entries assumed
  pub full : (present entries ≤ assumed) ⊎ ((l : Literal) → Contains cube l → up_to entries assumed l ≡ true)

-- a literal's property: a live clause has it
abbrev pub IsNamed : Live → Literal → Type 0
IsNamed live l = (n : ℕ) × (C : Clause) × live n C × Contains C l

-- each literal of a live clause is true or false
abbrev pub IsTotal : Clauses → TrailValue → Type 0
IsTotal m t = (l : Literal) → IsNamed (live_of m) l → (holds t.entries l ≡ true) ⊎ (holds t.entries (negation l) ≡ true)
