-- The value of the propagator `Watched`.
use Rattle.std.specs.Prelude.{ℕ, Bool, true, false, List, [], ◌∷◌}
use Rattle.clause_arena.specs.declared.reference.Ref.{Ref}
use Rattle.watches.specs.declared.watched.watch.Watch.{Watch}

-- the value of `Watched`: the watches; the attached clauses, which own two each; the number of heads of lists, which are the first places;
-- the number of the trail's entries that were propagated; and whether the lists still have watches of a detached clause
pub record Watches : Type 0 where
  pub places : List Watch
  pub clauses : List Ref
  pub base : ℕ
  pub head : ℕ
  pub stale : Bool

-- the clauses whose entry of the second list is true: they are not detached
abbrev pub attached_of : List Ref → List Bool → List Ref
attached_of [] live = []
attached_of (at ∷ clauses) [] = []
attached_of (at ∷ clauses) (true ∷ live) = at ∷ attached_of clauses live
attached_of (at ∷ clauses) (false ∷ live) = attached_of clauses live
