-- The invariant of a joiner.
use Rattle.std.specs.Prelude.{◌≡◌, ℕ, ◌+◌, ◌<◌, ◌≤◌, ◌^◌, List, [], ◌∷◌, length, All}
use Rattle.dimacs.specs.logic.Literal.{IsWithin}
use Rattle.proof_join.specs.Fronts.{Branch, Front}

-- a stack's property: its top is the left sibling of a subtree at this depth
abbrev pub HasLeft : ℕ → List Branch → Type 0
HasLeft depth [] = ⊥
HasLeft depth (b ∷ finished) = (b.depth ≡ depth) × (0 < depth)

-- a finished subtree's property: its clause is within the limits of any base, and the number is from 1 to top
abbrev pub IsUpTo : ℕ → Branch → Type 0
IsUpTo top b = (1 ≤ b.id) × (b.id ≤ top) × All (IsWithin 199999999) b.clause

-- the invariant of a joiner: clause numbers are at most the number of clauses and bytes, so that they stay below 2^48
pub record IsOrderly (f : Front) : Type 0 where
  pub base : f.base < 2 ^ 40
  pub up : f.base ≤ f.standing.top
  pub few : f.standing.top ≤ f.base + length f.standing.text
  pub short : length f.standing.text < 2 ^ 32
  pub finished : All (IsUpTo f.standing.top) f.standing.finished
