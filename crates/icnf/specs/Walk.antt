-- The walk through a splitting tree: the state while the cubes are read, from left to right.
use Rattle.std.specs.Prelude.{ℕ, ◌==◌, Bool, true, false, List, [], ◌∷◌, ◌++◌, map, Option, Some, None, if◌then◌else◌}
use Rattle.std.specs.List.{list_any}
use Rattle.dimacs.specs.logic.Literal.{Literal, negation, var_of, same}
use Rattle.icnf.specs.declared.place.Place.{Place}
use Rattle.icnf.specs.declared.walk.Stage.{Stage}
use Rattle.icnf.specs.declared.walk.Stage.TheVariants.{Outside, Complete}
use Rattle.icnf.specs.Leaves.{Cube}

-- the position in the text, the cubes that have ended, the decisions that were read of the open cube, and those that must follow
pub record WalkState : Type 0 where
  pub stage : Stage
  pub cubes : List Cube
  pub path : List Place
  pub forced : List Place

-- the literals of these decisions
abbrev pub literals_of : List Place → Cube
literals_of places = map (λ p. p.literal) places

-- the decision of the literal l, which was free: its other branch is still to come
abbrev pub free_place : Literal → Place
free_place l = record { literal = l; is_open = true }

-- the decision of the other branch of p, after which no branch is missing
abbrev pub other_place : Place → Place
other_place p = record { literal = negation p.literal; is_open = false }

-- the forced prefix from the decision p on, from the forced prefix below it: p and that prefix, or the other branch of p if nothing is
-- missing below it; None if no branch is missing
abbrev pub front_behind : Place → Option (List Place) → Option (List Place)
front_behind p (Some front) = Some (p ∷ front)
front_behind p None = if p.is_open then Some (other_place p ∷ []) else None

-- the forced prefix of the next cube, from the path of the last one: the path up to the deepest decision whose other branch is missing, and
-- then that branch; None if no branch is missing
abbrev pub next_front : List Place → Option (List Place)
next_front [] = None
next_front (p ∷ path) = front_behind p (next_front path)

-- whether the path has a literal of the variable v
abbrev pub names : List Place → ℕ → Bool
names path v = list_any (λ p. var_of p.literal == v) path

-- whether a cube may go on with the literal l, if these decisions must follow
abbrev pub fits : Literal → List Place → Bool
fits l [] = true
fits l (p ∷ forced) = same l p.literal

-- the state after the literal l, with which the cube may go on, from the decisions that must follow
abbrev pub advanced_by : Literal → List Place → WalkState → WalkState
advanced_by l [] w = record w { path = w.path ++ free_place l ∷ [] }
advanced_by l (p ∷ forced) w = record w { path = w.path ++ p ∷ []; forced = forced }

-- the state after the literal l, with which the cube may go on
abbrev pub advanced : Literal → WalkState → WalkState
advanced l w = advanced_by l w.forced w

-- the state after a cube's end, from the forced prefix of the next cube and all cubes that have ended
abbrev pub behind_cube : Option (List Place) → List Cube → WalkState
behind_cube None cubes = record { stage = Complete; cubes = cubes; path = []; forced = [] }
behind_cube (Some front) cubes = record { stage = Outside; cubes = cubes; path = []; forced = front }

-- the state after the end of the open cube
abbrev pub ended_cube : WalkState → WalkState
ended_cube w = behind_cube (next_front w.path) (w.cubes ++ literals_of w.path ∷ [])
