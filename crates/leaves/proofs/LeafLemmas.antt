-- The cube of a leaf.
use Rattle.std.proofs.Common.{◌≡◌, ℕ, zero, suc, ◌<◌, List, [], Some, get_or, map, nat_eq, length, subst, inl, inr, ◌∙◌}
use Rattle.std.specs.List.{All, IsDistinct, slice_get}
use Rattle.std.proofs.lemmas.Option.{slice_get_cases}
use Rattle.dimacs.specs.logic.Cnf.{AreWithin}
use Rattle.dimacs.specs.logic.Literal.{IsWithin, var_of}
use Rattle.icnf.specs.Leaves.{Cube, IsTree}
use Rattle.icnf.proofs.DistinctLemmas.{leaves_distinct}
use Rattle.leaves.specs.Leaf.{leaf_at}

no_literal : IsDistinct nat_eq (map var_of [])
unfolding IsDistinct
no_literal = tt

-- no variable stands twice in a cube
pub distinct_at : (leaves : List Cube) (i : ℕ) → IsTree leaves → i < length leaves → IsDistinct nat_eq (map var_of (get_or leaves i []))
distinct_at leaves i is below = leaves_distinct no_literal is.leaves i [] below

-- what holds of each element holds of the one that is found
found : {X : Type 0} (P : X → Type 0) (xs : List X) (i : ℕ) (q : X) → All P xs → slice_get xs i ≡ Some q → P q
found P xs i q h is = elim ((slice_get_cases xs i).1) [
  | inl (x, below, at, same) ↦ let e : x ≡ q = cc in subst P (same ∙ e) (h i x below)
  | inr (past, none) ↦ let no : ⊥ = cc in absurd no
]

-- the cube of a leaf has the variables that the tree has
pub within_at : (leaves : List Cube) (number : ℕ) (q : Cube) (m n : ℕ) → m ≡ n → AreWithin m leaves → leaf_at leaves number ≡ Some q → All (IsWithin n) q
within_at leaves zero q m n e w is = let no : ⊥ = cc in absurd no
within_at leaves (suc i) q m n e w is = subst (λ (k : ℕ). All (IsWithin k) q) e (found (All (IsWithin m)) leaves i q w is)
