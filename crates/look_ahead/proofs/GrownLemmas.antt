-- Grown trees stay within the variables of the clauses.
use Rattle.std.proofs.Common.{◌≡◌, ℕ, zero, suc, ◌<◌, ◌≤◌, List, [], ◌∷◌, ◌++◌, length, Result, Ok, Err, IfOk, OnOk, subst, sym}
use Rattle.std.specs.Prelude.{slice_index_or}
use Rattle.std.specs.List.{All}
use Rattle.std.proofs.lemmas.List.Elements.{All-cons, All-nil, All-head, All-tail, All-append}
use Rattle.dimacs.specs.logic.Cnf.{AreWithin}
use Rattle.dimacs.specs.logic.Literal.{Literal, Pos, Neg, IsWithin}
use Rattle.icnf.specs.Leaves.{Cube, branched}
use Rattle.look_ahead.specs.Grown.{IsGrown, MayBeCut, leaf, cut}

one_more : (n : ℕ) (q : Cube) (l : Literal) → All (IsWithin n) q → IsWithin n l → All (IsWithin n) (q ++ l ∷ [])
one_more n q l h here = All-append (IsWithin n) q (l ∷ []) h (All-cons (IsWithin n) l [] here (All-nil (IsWithin n)))

-- the branches of a variable within the limit are within it
pub branched_within : (n : ℕ) (xs : List Cube) (i v : ℕ) → AreWithin n xs → 0 < v → v ≤ n → AreWithin n (branched i v xs)
branched_within n [] i v w some most = All-nil (All (IsWithin n))
branched_within n (c ∷ xs) zero v w some most =
    let head = All-head (All (IsWithin n)) c xs w in
    let tail = All-tail (All (IsWithin n)) c xs w in
    All-cons (All (IsWithin n)) (c ++ Pos v ∷ []) ((c ++ Neg v ∷ []) ∷ xs) (one_more n c (Pos v) head (some, most))
    (All-cons (All (IsWithin n)) (c ++ Neg v ∷ []) xs (one_more n c (Neg v) head (some, most)) tail)
branched_within n (c ∷ xs) (suc i) v w some most =
    All-cons (All (IsWithin n)) c (branched i v xs) (All-head (All (IsWithin n)) c xs w)
    (branched_within n xs i v (All-tail (All (IsWithin n)) c xs w) some most)

-- a grown tree has no other variables
pub grown_within : {last : ℕ} {cubes : List Cube} → IsGrown last cubes → AreWithin last cubes
grown_within {last = n} leaf = All-cons (All (IsWithin n)) [] [] (All-nil (IsWithin n)) (All-nil (All (IsWithin n)))
grown_within {last = n} (cut {cubes = cubes} i v before inside here) = branched_within n cubes i v (grown_within before) here.some here.most
