-- The next step of a search, and the end of a descent.
use Rattle.std.specs.Prelude.{◌≡◌, ℕ, ◌<◌, ◌≤◌, true, false, List, length, slice_index_or, Contains}
use Rattle.dimacs.specs.logic.Literal.{Literal, IsWithin, negation}
use Rattle.clause_arena.specs.Clauses.{Clauses, live_of}
use Rattle.watches.specs.Law.{NoneFalseOrUnit, IsConflict}
use Rattle.watches.specs.Trails.{TrailValue, holds}
use Rattle.watches.specs.declared.trail.Assigned.{Assigned}
use Rattle.cube_solve.specs.Conflicts.{AllHold}
use Rattle.cube_solve.specs.inner.State.{IsTotal}
use Rattle.cube_solve.specs.declared.decision.Next.{Next}
use Rattle.cube_solve.specs.declared.decision.Next.TheVariants as next
use Rattle.cube_solve.specs.declared.descent.Found.{Found}
use Rattle.cube_solve.specs.declared.descent.Found.TheVariants as found

-- the first `held` literals of the cube are true
pub record AreHeld (held : ℕ) (cube : List Literal) (entries : List Assigned) : Type 0 where
  pub few : held ≤ length cube
  pub true_all : (k : ℕ) (d : Literal) → k < held → holds entries (slice_index_or cube k d) ≡ true

-- a literal's property: its variable is one of the trail's, and is not assigned
pub record IsUnassigned (t : TrailValue) (l : Literal) : Type 0 where
  pub within : IsWithin t.vars l
  pub not_true : holds t.entries l ≡ false
  pub not_false : holds t.entries (negation l) ≡ false

-- the next step of a search: it is right for the trail t and the cube
abbrev pub IsNext : TrailValue → List Literal → Next → Type 0
IsNext t cube (next.Assume l) = Contains cube l × IsUnassigned t l
IsNext t cube (next.Fails l) = Contains cube l × (holds t.entries (negation l) ≡ true) × (holds t.entries l ≡ false)
IsNext t cube (next.Decide l) = AllHold t.entries cube × IsUnassigned t l
IsNext t cube next.Done = AllHold t.entries cube

-- the end of a descent: it is right for the clauses m, the trail t and the cube
abbrev pub IsFound : Clauses → TrailValue → List Literal → Found → Type 0
IsFound m t cube found.Model = NoneFalseOrUnit (live_of m) (holds t.entries) × AllHold t.entries cube × IsTotal m t
IsFound m t cube (found.Clause n) = IsConflict (live_of m) t.entries n
IsFound m t cube (found.Assumption l) = Contains cube l × (holds t.entries (negation l) ≡ true)
