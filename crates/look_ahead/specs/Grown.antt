-- Splitting trees that grow leaf by leaf.
use Rattle.std.specs.Prelude.{ℕ, ◌<◌, ◌≤◌, List, [], ◌∷◌, length, slice_index_or}
use Rattle.icnf.specs.Leaves.{Cube, IsFree, branched}

-- a variable's property: the cube q may be cut in two on it; it is from 1 to `last`, and q has no literal of it
pub record MayBeCut (last : ℕ) (q : Cube) (v : ℕ) : Type 0 where
  pub some : 0 < v
  pub most : v ≤ last
  pub free : IsFree q v

-- a tree's leaves: it is one leaf, or a grown tree of which one leaf was cut in two
pub data IsGrown (last : ℕ) : List Cube → Type 0 where
  leaf : IsGrown last ([] ∷ [])
  cut : {cubes : List Cube} (i v : ℕ) → IsGrown last cubes → i < length cubes → MayBeCut last (slice_index_or cubes i []) v → IsGrown last (branched i v cubes)
