-- Clauses in one list of literals, found by a list of offsets.
use Rattle.std.specs.Prelude.{◌≡◌, ℕ, ◌+◌, ◌-◌, ◌<◌, ◌≤◌, List, [], ◌∷◌, length, slice_range, slice_index}
use Rattle.dimacs.specs.logic.Literal.{Literal, Clause}

-- the clauses of the list xs: each one is between an offset and the next
abbrev pub parts : List Literal → List ℕ → List Clause
parts xs [] = []
parts xs (a ∷ []) = []
parts xs (a ∷ b ∷ places) = slice_range xs a b ∷ parts xs (b ∷ places)

-- places are offsets into a list of this length: there is one at least, none is less than the one before, none exceeds the length
pub record ArePlaces (places : List ℕ) (len : ℕ) : Type 0 where
  pub some : 0 < length places
  pub rise : (i : ℕ) → i + 1 < length places → slice_index places i ≤ slice_index places (i + 1)
  pub inside : (i : ℕ) → i < length places → slice_index places i ≤ len

-- the last offset
abbrev pub last_place : List ℕ → ℕ
last_place places = slice_index places (length places - 1)

-- the clauses with these offsets fill the list xs: the first offset is 0, and the last one is the length
pub record Fills (xs : List Literal) (places : List ℕ) : Type 0 where
  pub rise : ArePlaces places (length xs)
  pub begins : slice_index places 0 ≡ 0
  pub ends : last_place places ≡ length xs
