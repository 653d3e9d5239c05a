-- No cube of a tree has a variable twice.
use Rattle.std.proofs.Common.{◌≡◌, ◌≢◌, ℕ, false, ◌||◌, List, [], ◌∷◌, ◌++◌, map, refl, sym, ◌∙◌, ap, subst, arith}
use Rattle.std.specs.Prelude.{nat_eq, All}
use Rattle.std.specs.Cmp.{IsEquivalence}
use Rattle.std.specs.List.{IsDistinct, list_any}
use Rattle.std.proofs.lemmas.Bool.{eq-eqb, ne_eqb}
use Rattle.std.proofs.lemmas.Bool.Decides.{nat_tests}
use Rattle.std.proofs.lemmas.List.{map-append}
use Rattle.std.proofs.lemmas.List.Elements.{All-nil, All-cons, All-head, All-tail, All-append}
use Rattle.std.proofs.lemmas.Map.Keys.{IsDistinct-push}
use Rattle.dimacs.specs.logic.Literal.{Literal, negation, var_of}
use Rattle.dimacs.proofs.LiteralLemmas.{var_of-negation}
use Rattle.icnf.specs.Leaves.{Cube, IsFree, Leaves, leaf, fork}

by_number : IsEquivalence nat_eq
by_number = record { refl = λ x. eq-eqb x x refl; symm = λ x y. grind (arith, nat_tests); congr = λ x y z e. grind (arith, nat_tests) }

not_among : (path : Cube) (v : ℕ) → IsFree path v → list_any (nat_eq v) (map var_of path) ≡ false
not_among [] v free = refl
not_among (l ∷ path) v free =
    ap (λ b. b || list_any (nat_eq v) (map var_of path)) (ne_eqb v (var_of l) (λ e. All-head (λ k. var_of k ≢ v) l path free (sym e)))
    ∙ not_among path v (All-tail (λ k. var_of k ≢ v) l path free)

-- a path and a literal of another variable
distinct_longer : (path : Cube) (x : Literal) → IsFree path (var_of x) → IsDistinct nat_eq (map var_of path) → IsDistinct nat_eq (map var_of (path ++ x ∷ []))
distinct_longer path x free h =
    subst (IsDistinct nat_eq) (sym (map-append var_of path (x ∷ []))) (IsDistinct-push by_number (map var_of path) (var_of x) h (not_among path (var_of x) free))

-- no cube below a path without a repeated variable has one
pub leaves_distinct : {path : Cube} {cubes : List Cube} → IsDistinct nat_eq (map var_of path) → Leaves path cubes → All (λ q. IsDistinct nat_eq (map var_of q)) cubes
leaves_distinct {path = path} h leaf = All-cons (λ (q : Cube). IsDistinct nat_eq (map var_of q)) path [] h (All-nil (λ (q : Cube). IsDistinct nat_eq (map var_of q)))
leaves_distinct h (fork {path = path} {left = left} {right = right} x free first second) =
    let other : IsFree path (var_of (negation x)) = subst (IsFree path) (sym (var_of-negation x)) free in
    All-append (λ (q : Cube). IsDistinct nat_eq (map var_of q)) left right (leaves_distinct (distinct_longer path x free h) first) (leaves_distinct (distinct_longer path (negation x) other h) second)
