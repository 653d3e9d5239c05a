-- The invariant of a walk, at a trail.
use Rattle.std.specs.Prelude.{◌≡◌, ℕ, Bool, ◌+◌, ◌*◌, ◌<◌, ◌≤◌, List, [], ◌∷◌, ◌++◌, length, slice_index, slice_index_or, All, if◌then◌else◌}
use Rattle.std.specs.List.{list_any}
use Rattle.dimacs.specs.logic.Cnf.{Cnf, AreWithin}
use Rattle.dimacs.specs.logic.Literal.{Literal, Clause, var_of, has}
use Rattle.icnf.specs.Leaves.{Cube}
use Rattle.cube_split.specs.Choice.{is_apart, stands_in}
use Rattle.cube_split.specs.ChoiceWithDefinitions.{held_by}
use Rattle.cube_split.specs.Definitions.{Opening}
use Rattle.cube_split.specs.inner.Marks.{AreMarked}
use Rattle.cube_split.specs.inner.OpenClauses.{AreIndexed}
use Rattle.cube_split.specs.inner.Places.{clause_of}
use Rattle.cube_split.specs.declared.walk.Walk.{Walk}

-- the level of the first literal of the trail that the clause contains, if their levels are n, n + 1, ..; 0 if it contains none
abbrev pub level_of : ℕ → Cube → Clause → ℕ
level_of n [] C = 0
level_of n (l ∷ trail) C = if has C l then n else level_of (n + 1) trail C

-- the level at which a clause is closed: 1 by the units, 2 by the first literal of the trail, and so on; 0 if it is open
abbrev pub closed_at : List Literal → Cube → Clause → ℕ
closed_at units trail C = if is_apart units C then level_of 2 trail C else 1

-- a table's property: it has 1 for each clause with a literal that passes the test, and 0 for each other clause
pub record IsClosedBy (test : Literal → Bool) (clauses : List Clause) (closed : List ℕ) : Type 0 where
  pub size : length closed ≡ length clauses
  pub level : (i : ℕ) → i < length clauses → slice_index closed i ≡ (if list_any test (slice_index_or clauses i []) then 1 else 0)

-- a list `variables` has each variable that occurs in a clause without a literal of the units
pub record AreOpenVariables (f : Cnf) (units : List Literal) (variables : List ℕ) : Type 0 where
  pub inside : (k : ℕ) → k < length variables → (0 < slice_index variables k) × (slice_index variables k ≤ f.vars)
  pub listed : (w : ℕ) → 0 < w → w ≤ f.vars → 0 < stands_in f.clauses units w → (k : ℕ) × (k < length variables) × (slice_index variables k ≡ w)

-- the formula with the defined variables, but without the clauses that define them
abbrev pub widened : Cnf → Opening → Cnf
widened F opening = record { vars = F.vars + length opening.pairs; clauses = F.clauses }

-- the literals that hold at the root: the units of the opening, and the pairs of those that are defined variables
abbrev pub from_start : Cnf → Opening → List Literal
from_start F opening = opening.units ++ held_by opening.units (F.vars + 1) opening.pairs

-- the invariant of a walk, with these units and this trail
pub record IsWalkAt (f : Cnf) (units : List Literal) (trail : Cube) (s : Walk) : Type 0 where
  pub vars : f.vars ≤ 100000063
  pub few : length f.clauses ≤ 99999999
  pub within : AreWithin f.vars f.clauses
  pub rows : length s.counts.items ≡ f.vars + 1
  pub marks : length s.marks.items ≡ 2 * length s.counts.items
  pub latest : length s.places.latest.items ≡ 2 * length s.counts.items
  pub size : length s.closed.items ≡ length f.clauses
  pub indexed : AreIndexed (length f.clauses) s.places.places.items s.places.starts.items s.places.latest.items
  pub clauses : (i : ℕ) → i < length f.clauses → clause_of s.places.places.items s.places.starts.items i ≡ slice_index_or f.clauses i []
  pub inside : All (λ e. var_of e.literal < length s.counts.items) s.places.places.items
  pub listed : AreOpenVariables f units s.variables.items
  pub marked : AreMarked s.marks.items (has (units ++ trail))
  pub closed : (i : ℕ) → i < length f.clauses → slice_index s.closed.items i ≡ closed_at units trail (slice_index_or f.clauses i [])
  pub level : s.level ≡ length trail + 2
  pub counted : (w : ℕ) → w < length s.counts.items → slice_index s.counts.items w ≡ stands_in f.clauses (units ++ trail) w
