-- Subsequences of lists of literals.
use Rattle.std.specs.Prelude.{◌≡◌, List, [], ◌∷◌, ◌⊎◌}
use Rattle.dimacs.specs.logic.Literal.{Literal}

-- the first list is a subsequence of the second: its literals are some of the second's, in its order
abbrev pub IsSubsequenceOf : List Literal → List Literal → Type 0
IsSubsequenceOf [] all = Unit {0}
IsSubsequenceOf (l ∷ part) [] = ⊥
IsSubsequenceOf (l ∷ part) (k ∷ all) = ((l ≡ k) × IsSubsequenceOf part all) ⊎ IsSubsequenceOf (l ∷ part) all
