-- The decision order and the trail: each unassigned variable of a clause is in the order.
use Rattle.std.specs.Prelude.{◌≡◌, ◌≢◌, ℕ, ◌<◌, ◌≤◌, true, false, List, Contains}
use Rattle.dimacs.specs.logic.Literal.{Literal, Clause, var_of}
use Rattle.decide_heap.specs.Decisions.{Decisions, is_in}
use Rattle.clause_arena.specs.Clauses.{Clauses, live_of}
use Rattle.watches.specs.Trails.{TrailValue}
use Rattle.watches.specs.declared.trail.Assigned.{Assigned}
use Rattle.cube_solve.specs.inner.State.{IsNamed}
use Rattle.cube_solve.specs.inner.Steps.{IsUnassigned}
use Rattle.cube_solve.specs.declared.decision.Next.{Next}
use Rattle.cube_solve.specs.declared.decision.Next.TheVariants as next

-- the decision order has each variable of a live clause that the trail leaves unassigned
pub record IsOrder (m : Clauses) (t : TrailValue) (d : Decisions) : Type 0 where
  pub vars : d.vars ≡ t.vars
  pub waits : (l : Literal) → IsNamed (live_of m) l → IsUnassigned t l → is_in d (var_of l) ≡ true

-- the decision order, before and after: no unassigned variable was taken out
pub record KeepsFree (t : TrailValue) (old new : Decisions) : Type 0 where
  pub vars : new.vars ≡ old.vars
  pub kept : (l : Literal) → IsUnassigned t l → is_in old (var_of l) ≡ true → is_in new (var_of l) ≡ true

-- the decision order, before and after: no unassigned variable was taken out, except perhaps that of literal l
pub record KeepsFreeBut (t : TrailValue) (l : Literal) (old new : Decisions) : Type 0 where
  pub vars : new.vars ≡ old.vars
  pub kept : (k : Literal) → IsUnassigned t k → var_of k ≢ var_of l → is_in old (var_of k) ≡ true → is_in new (var_of k) ≡ true

-- no unassigned variable is in the decision order
abbrev pub HasNoFree : TrailValue → Decisions → Type 0
HasNoFree t d = (l : Literal) → IsUnassigned t l → is_in d (var_of l) ≡ false

-- the decision order, before and after the next step was chosen: no unassigned variable was taken out, except perhaps the one that is to
-- be decided; at the end there was none
abbrev pub IsTaken : TrailValue → Next → Decisions → Decisions → Type 0
IsTaken t (next.Assume l) old new = KeepsFree t old new
IsTaken t (next.Fails l) old new = KeepsFree t old new
IsTaken t (next.Decide l) old new = KeepsFreeBut t l old new
IsTaken t next.Done old new = KeepsFree t old new × HasNoFree t old

-- the decision order has the variables from 1 to `count`
pub record AreAllIn (count : ℕ) (d : Decisions) : Type 0 where
  pub vars : d.vars ≡ count
  pub waits : (v : ℕ) → 0 < v → v ≤ count → is_in d v ≡ true

-- the decision order has the variables of these clauses
abbrev pub HasVariables : List Clause → Decisions → Type 0
HasVariables F d = (C : Clause) (l : Literal) → Contains F C → Contains C l → is_in d (var_of l) ≡ true

-- the decision order, before and after: the variables of the clause C are in it, and none was taken out
pub record AreInserted (C : Clause) (old new : Decisions) : Type 0 where
  pub vars : new.vars ≡ old.vars
  pub kept : (v : ℕ) → is_in old v ≡ true → is_in new v ≡ true
  pub there : (l : Literal) → Contains C l → is_in new (var_of l) ≡ true

-- the decision order, before and after: the variables of the entries above a level are in it, and none was taken out
pub record ArePutBack (t : TrailValue) (level : ℕ) (old new : Decisions) : Type 0 where
  pub vars : new.vars ≡ old.vars
  pub kept : (v : ℕ) → is_in old v ≡ true → is_in new v ≡ true
  pub back : (e : Assigned) → Contains t.entries e → level < e.level → is_in new (var_of e.literal) ≡ true

-- the decision order, before and after: its members are the same, whatever their scores
pub record HasSameMembers (old new : Decisions) : Type 0 where
  pub vars : new.vars ≡ old.vars
  pub members : new.members ≡ old.members
