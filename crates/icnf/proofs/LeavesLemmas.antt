-- Trees that are split at a leaf.
use Rattle.std.proofs.Common.{◌≡◌, ℕ, zero, suc, ◌+◌, ◌-◌, ◌<◌, ◌≤◌, List, [], ◌∷◌, ◌++◌, length, get_or, refl, sym, ap, arith, subst, length-append, ⊎_elim, Result, Ok, Err, OnOk, OnErr}
use Rattle.std.proofs.lemmas.Bool.{cases_lt}
use Rattle.std.proofs.lemmas.List.{get_or_append_left, get_or-append_right}
use Rattle.dimacs.specs.logic.Literal.{Pos}
use Rattle.icnf.specs.Leaves.{Cube, IsFree, Leaves, leaf, fork, branched}

-- a tree has a leaf
pub leaves_some : {path : Cube} {cubes : List Cube} → Leaves path cubes → 0 < length cubes
leaves_some leaf = omega arith
leaves_some (fork {left = l} {right = r} x free a b) = omega (arith, leaves_some a, length-append l r)

branched_left : (xs ys : List Cube) (i v : ℕ) → i < length xs → branched i v (xs ++ ys) ≡ branched i v xs ++ ys
branched_left [] ys i v h = absurd (omega arith)
branched_left (c ∷ xs) ys zero v h = refl
branched_left (c ∷ xs) ys (suc i) v h = ap (λ (rest : List Cube). c ∷ rest) (branched_left xs ys i v (omega arith))

branched_right : (xs ys : List Cube) (i n v : ℕ) → i ≡ length xs + n → branched i v (xs ++ ys) ≡ xs ++ branched n v ys
branched_right [] ys i n v e = let same : i ≡ n = omega arith in rw same refl
branched_right (c ∷ xs) ys zero n v e = absurd (omega arith)
branched_right (c ∷ xs) ys (suc i) n v e = ap (λ (rest : List Cube). c ∷ rest) (branched_right xs ys i n v (omega arith))

-- two branches in the place of a leaf
pub leaves_branched : {path : Cube} {cubes : List Cube} → Leaves path cubes → (i v : ℕ) → i < length cubes → IsFree (get_or cubes i []) v → Leaves path (branched i v cubes)
leaves_branched leaf zero v h free = fork (Pos v) free leaf leaf
leaves_branched leaf (suc i) v h free = absurd (omega arith)
leaves_branched (fork {path = p} {left = l} {right = r} x apart a b) i v h free =
    let all = length-append l r in
    ⊎_elim
    (λ (here : i < length l).
    let same = get_or_append_left l r [] i here in
    rw (branched_left l r i v here) (fork x apart (leaves_branched a i v here (subst (λ (c : Cube). IsFree c v) same free)) b))
    (λ (later : length l ≤ i).
    let same = get_or-append_right l r (length l) i [] refl later in
    rw (branched_right l r i (i - length l) v (omega arith)) (fork x apart a (leaves_branched b (i - length l) v (omega arith) (subst (λ (c : Cube). IsFree c v) same free))))
    (cases_lt i (length l))

-- what a split leaves, whether or not memory was refused
pub split_keeps : {E : Type 0} (r : Result (Unit {0}) E) (old seen new : List Cube) (i v : ℕ) → old ≡ seen → Leaves [] old → i < length seen → IsFree (get_or seen i []) v
    → OnOk r (new ≡ branched i v old) → OnErr r (new ≡ old) → Leaves [] new
split_keeps (Ok u) old seen new i v e h below free ok err =
    let below' : i < length old = rw e below in
    let free' : IsFree (get_or old i []) v = subst (λ (cs : List Cube). IsFree (get_or cs i []) v) (sym e) free in
    rw ok (leaves_branched h i v below' free')
split_keeps (Err x) old seen new i v e h below free ok err = rw err h
