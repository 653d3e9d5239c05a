-- Subsequences of lists of literals.
use Rattle.std.proofs.Common.{inl, inr, Bool, true, false, cond, List, [], ◌∷◌, ◌++◌, refl, ◌∙◌}
use Rattle.std.specs.List.{filter}
use Rattle.dimacs.specs.logic.Literal.{Literal}
use Rattle.cube_solve.specs.Subsequences.{IsSubsequenceOf}

pub part_skip : (xs ys : List Literal) (l : Literal) → IsSubsequenceOf xs ys → IsSubsequenceOf xs (ys ++ l ∷ [])
part_skip [] ys l h = tt
part_skip (x ∷ xs) [] l h = absurd h
part_skip (x ∷ xs) (y ∷ ys) l h = elim h [ inl e ↦ inl (e.0, part_skip xs ys l e.1) | inr r ↦ inr (part_skip (x ∷ xs) ys l r) ]

pub part_keep : (xs ys : List Literal) (l : Literal) → IsSubsequenceOf xs ys → IsSubsequenceOf (xs ++ l ∷ []) (ys ++ l ∷ [])
part_keep [] [] l h = inl (refl, tt)
part_keep [] (y ∷ ys) l h = inr (part_keep [] ys l tt)
part_keep (x ∷ xs) [] l h = absurd h
part_keep (x ∷ xs) (y ∷ ys) l h = elim h [ inl e ↦ inl (e.0, part_keep xs ys l e.1) | inr r ↦ inr (part_keep (x ∷ xs) ys l r) ]

part_behind : (xs ys : List Literal) (y : Literal) → IsSubsequenceOf xs ys → IsSubsequenceOf xs (y ∷ ys)
part_behind [] ys y h = tt
part_behind (x ∷ xs) ys y h = inr h

filter_more : (b : Bool) (xs ys : List Literal) (y : Literal) → IsSubsequenceOf xs ys → IsSubsequenceOf (cond b (y ∷ xs) xs) (y ∷ ys)
filter_more true xs ys y h = inl (refl, h)
filter_more false xs ys y h = part_behind xs ys y h

pub part_filter : (p : Literal → Bool) (xs : List Literal) → IsSubsequenceOf (filter p xs) xs
part_filter p [] = tt
part_filter p (x ∷ xs) = filter_more (p x) (filter p xs) xs x (part_filter p xs)

pub part_trans : (xs ys zs : List Literal) → IsSubsequenceOf xs ys → IsSubsequenceOf ys zs → IsSubsequenceOf xs zs
part_trans [] ys zs h g = tt
part_trans (x ∷ xs) [] zs h g = absurd h
part_trans (x ∷ xs) (y ∷ ys) [] h g = absurd g
part_trans (x ∷ xs) (y ∷ ys) (z ∷ zs) h g = elim g [
  | inl e ↦ elim h [ inl f ↦ inl (f.0 ∙ e.0, part_trans xs ys zs f.1 e.1) | inr r ↦ inr (part_trans (x ∷ xs) ys zs r e.1) ]
  | inr r ↦ inr (part_trans (x ∷ xs) (y ∷ ys) zs h r)
]
