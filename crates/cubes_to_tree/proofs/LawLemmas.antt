-- The leaves of a tree diverge.
use Rattle.std.proofs.Common.{◌≡◌, ◌∙◌, true, ◌&&◌, List, [], ◌∷◌, ◌++◌, refl, sym, ap, ap₂, append_assoc}
use Rattle.std.specs.List.{All, list_all}
use Rattle.std.proofs.lemmas.List.{append-nil}
use Rattle.std.proofs.lemmas.List.Elements.{All-append, All-cons, All-head, All-nil, All-tail, All-weaker}
use Rattle.std.proofs.lemmas.List.Folds.{list_all-append}
use Rattle.dimacs.specs.logic.Literal.{Literal, negation}
use Rattle.icnf.specs.Leaves.{Cube, Leaves, fork, leaf}
use Rattle.cubes_to_tree.specs.Divergence.{AllDiverge, diverge}
use Rattle.cubes_to_tree.proofs.DivergenceLemmas.{parts_apart, parts_front}

abbrev Begins : Cube → Cube → Type 0
Begins path q = (rest : Cube) × (q ≡ path ++ rest)

shorter : (path : Cube) (x : Literal) (q : Cube) → Begins (path ++ x ∷ []) q → Begins path q
shorter path x q (rest, e) = (x ∷ rest, e ∙ append_assoc path (x ∷ []) rest)

leaves_begin : {path : Cube} {cubes : List Cube} → Leaves path cubes → All (Begins path) cubes
leaves_begin (leaf {path = path}) = All-cons (Begins path) path [] ([], sym (append-nil path)) (All-nil (Begins path))
leaves_begin (fork {path = path} {left = left} {right = right} x free a b) =
    All-append (Begins path) left right
    (All-weaker (Begins (path ++ x ∷ [])) (Begins path) (shorter path x) left (leaves_begin a))
    (All-weaker (Begins (path ++ negation x ∷ [])) (Begins path) (shorter path (negation x)) right (leaves_begin b))

part_two : (path : Cube) (x : Literal) (q r : Cube) → Begins (path ++ x ∷ []) q → Begins (path ++ negation x ∷ []) r → diverge q r ≡ true
part_two path x q r (a, e) (b, f) =
    ap₂ diverge (e ∙ append_assoc path (x ∷ []) a) (f ∙ append_assoc path (negation x ∷ []) b) ∙ parts_front path (x ∷ a) (negation x ∷ b) ∙ parts_apart x a b

all_part : (q : Cube) (P : Cube → Type 0) (cubes : List Cube) → ((r : Cube) → P r → diverge q r ≡ true) → All P cubes → list_all (diverge q) cubes ≡ true
all_part q P [] h all = refl
all_part q P (r ∷ cubes) h all = ap (λ b. b && list_all (diverge q) cubes) (h r (All-head P r cubes all)) ∙ all_part q P cubes h (All-tail P r cubes all)

part_append : (xs ys : List Cube) → AllDiverge xs → AllDiverge ys → All (λ q. list_all (diverge q) ys ≡ true) xs → AllDiverge (xs ++ ys)
part_append [] ys a b h = b
part_append (q ∷ xs) ys a b h = (
  list_all-append (diverge q) xs ys ∙ ap (λ t. t && list_all (diverge q) ys) a.0 ∙ All-head (λ (c : Cube). list_all (diverge c) ys ≡ true) q xs h,
  part_append xs ys a.1 b (All-tail (λ (c : Cube). list_all (diverge c) ys ≡ true) q xs h),
)

pub all_leaves_part : {path : Cube} {cubes : List Cube} → Leaves path cubes → AllDiverge cubes
all_leaves_part leaf = (refl, tt)
all_leaves_part (fork {path = path} {left = left} {right = right} x free a b) =
    part_append left right (all_leaves_part a) (all_leaves_part b)
    (All-weaker (Begins (path ++ x ∷ [])) (λ (q : Cube). list_all (diverge q) right ≡ true)
    (λ q begins. all_part q (Begins (path ++ negation x ∷ [])) right (λ r k. part_two path x q r begins k) (leaves_begin b)) left (leaves_begin a))
