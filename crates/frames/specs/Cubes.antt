-- Cubes: the literals that a task assumes.
use Rattle.std.specs.Prelude.{ℕ, ◌≤◌, Bool, not, ◌&&◌, ◌==◌, nat_eq, nat_lt, nat_le, List, length, map, All}
use Rattle.std.specs.List.{IsDistinct, list_any}
use Rattle.dimacs.specs.logic.Literal.{Literal, var_of, IsWithin}

-- a cube: at most 64 literals, of variables from 1 to 2,000,000, no variable twice
pub record IsCube (literals : List Literal) : Type 0 where
  pub short : length literals ≤ 64
  pub within : All (IsWithin 2000000) literals
  pub distinct : IsDistinct nat_eq (map var_of literals)

-- whether a literal is of this variable
abbrev pub names : ℕ → Literal → Bool
names v l = var_of l == v

-- whether a literal may be appended to the cube: it has fewer than 64 literals, and the literal's variable is at most 2,000,000 and new
abbrev pub takes : List Literal → Literal → Bool
takes literals l = nat_lt (length literals) 64 && (nat_le (var_of l) 2000000 && not (list_any (names (var_of l)) literals))
