-- The value of a decision heap: scores, members, and the order of decisions.
use Rattle.std.specs.Prelude.{◌≡◌, ℕ, ◌+◌, ◌-◌, ◌^◌, ◌<◌, ◌≤◌, max, min, Bool, true, false, List, ◌++◌, replicate, slice_index, slice_index_or, slice_set, nat_lt, if◌then◌else◌}

-- the value of a decision heap: the number of variables; and for each variable, variable 1 first, its score and whether it is in the heap
pub record Decisions : Type 0 where
  pub vars : ℕ
  pub scores : List ℕ
  pub members : List Bool

-- a variable from 1 to the number of variables
abbrev pub IsWithin : Decisions → ℕ → Type 0
IsWithin d v = (0 < v) × (v ≤ d.vars)

-- the score of a variable
abbrev pub score_of : Decisions → ℕ → ℕ
score_of d v = slice_index d.scores (v - 1)

-- whether a variable is in the heap
abbrev pub is_in : Decisions → ℕ → Bool
is_in d v = slice_index_or d.members (v - 1) false

-- v comes no later than w in the order of decisions: the greater score comes first, and of the same score the lower number
pub record IsNoWorse (score : ℕ → ℕ) (v w : ℕ) : Type 0 where
  pub greater : score w ≤ score v
  pub lower : score w ≡ score v → v ≤ w

-- v is in the heap, and comes no later than any variable in the heap
pub record IsBest (d : Decisions) (v : ℕ) : Type 0 where
  pub within : IsWithin d v
  pub inside : is_in d v ≡ true
  pub first : (w : ℕ) → 0 < w → is_in d w ≡ true → IsNoWorse (score_of d) v w

-- n + 1, saturating at 2^64 - 1
abbrev pub saturating_successor : ℕ → ℕ
saturating_successor n = if nat_lt n (2 ^ 64 - 1) then n + 1 else n

-- n + amount, saturating at 2^64 - 1
abbrev pub saturating_sum : ℕ → ℕ → ℕ
saturating_sum n amount = min (n + amount) (2 ^ 64 - 1)

-- a heap with room for the variables from 1 to vars: new ones have the score 0, and are not in the heap
abbrev pub with_room : Decisions → ℕ → Decisions
with_room d vars = record {
  vars = max d.vars vars;
  scores = d.scores ++ replicate (vars - d.vars) 0;
  members = d.members ++ replicate (vars - d.vars) false;
}

-- a heap with the variable v in it, or out of it
abbrev pub with_member : Decisions → ℕ → Bool → Decisions
with_member d v inside = record d { members = slice_set d.members (v - 1) inside }

-- a heap with another score of the variable v
abbrev pub with_score : Decisions → ℕ → ℕ → Decisions
with_score d v score = record d { scores = slice_set d.scores (v - 1) score }
