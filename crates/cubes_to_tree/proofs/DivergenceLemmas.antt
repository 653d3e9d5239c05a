-- Cubes that diverge.
use Rattle.std.proofs.Common.{◌≡◌, ◌≢◌, ◌∙◌, ◌<◌, true, false, ◌&&◌, cond, List, [], ◌∷◌, ◌++◌, length, map, refl, sym, ap, arith}
use Rattle.std.specs.List.{list_all}
use Rattle.std.proofs.lemmas.List.Folds.{list_all-append, list_all-map}
use Rattle.dimacs.specs.logic.Literal.{Literal, Pos, Neg, negation, same, var_of}
use Rattle.dimacs.proofs.LiteralLemmas.{negation_apart, same-false, same-itself, var_of-negation}
use Rattle.icnf.specs.Leaves.{Cube}
use Rattle.cubes_to_tree.specs.Divergence.{diverge}
use Rattle.cubes_to_tree.proofs.ListLemmas.{all_same, all_true, and_true, none_all}

-- after the same literal
pub parts_behind : (x : Literal) (q r : Cube) → diverge (x ∷ q) (x ∷ r) ≡ diverge q r
parts_behind x q r = ap (λ b. cond b (diverge q r) (same (negation x) x)) (same-itself x)

-- after a literal and its negation
pub parts_apart : (x : Literal) (q r : Cube) → diverge (x ∷ q) (negation x ∷ r) ≡ true
parts_apart x q r =
    ap (λ b. cond b (diverge q r) (same (negation x) (negation x))) (same-false x (negation x) (λ e. negation_apart x (sym e))) ∙ same-itself (negation x)

-- after literals of two variables
pub parts_never : (x y : Literal) (q r : Cube) → var_of x ≢ var_of y → diverge (x ∷ q) (y ∷ r) ≡ false
parts_never x y q r n =
    ap (λ b. cond b (diverge q r) (same (negation x) y)) (same-false x y (λ e. n (ap var_of e)))
    ∙ same-false (negation x) y (λ e. n (sym (var_of-negation x) ∙ ap var_of e))

pub parts_front : (p q r : Cube) → diverge (p ++ q) (p ++ r) ≡ diverge q r
parts_front [] q r = refl
parts_front (x ∷ p) q r = parts_behind x (p ++ q) (p ++ r) ∙ parts_front p q r

pub ends_part : (r : Cube) → diverge [] r ≡ false
ends_part [] = refl
ends_part (x ∷ r) = refl

-- a cube that begins with a literal is compared with the cubes of that literal alone, not with those of its negation
pub all_behind : (x : Literal) (q : Cube) (left right : List Cube)
    → list_all (diverge (x ∷ q)) (map (λ c. x ∷ c) left ++ map (λ c. negation x ∷ c) right) ≡ list_all (diverge q) left
all_behind x q left right =
    list_all-append (diverge (x ∷ q)) (map (λ c. x ∷ c) left) (map (λ c. negation x ∷ c) right)
    ∙ ap (λ b. b && list_all (diverge (x ∷ q)) (map (λ c. negation x ∷ c) right))
    (list_all-map (diverge (x ∷ q)) (λ c. x ∷ c) left ∙ all_same (λ c. diverge (x ∷ q) (x ∷ c)) (diverge q) left (parts_behind x q))
    ∙ ap (λ b. list_all (diverge q) left && b)
    (list_all-map (diverge (x ∷ q)) (λ c. negation x ∷ c) right ∙ all_true (λ c. diverge (x ∷ q) (negation x ∷ c)) right (parts_apart x q))
    ∙ and_true (list_all (diverge q) left)

pub all_other : (x : Literal) (q : Cube) (left right : List Cube)
    → list_all (diverge (negation x ∷ q)) (map (λ c. x ∷ c) left ++ map (λ c. negation x ∷ c) right) ≡ list_all (diverge q) right
all_other x q left right =
    list_all-append (diverge (negation x ∷ q)) (map (λ c. x ∷ c) left) (map (λ c. negation x ∷ c) right)
    ∙ ap (λ b. b && list_all (diverge (negation x ∷ q)) (map (λ c. negation x ∷ c) right))
    (list_all-map (diverge (negation x ∷ q)) (λ c. x ∷ c) left ∙ all_true (λ c. diverge (negation x ∷ q) (x ∷ c)) left (back x))
    ∙ (list_all-map (diverge (negation x ∷ q)) (λ c. negation x ∷ c) right
    ∙ all_same (λ c. diverge (negation x ∷ q) (negation x ∷ c)) (diverge q) right (parts_behind (negation x) q))
  where
    back : (y : Literal) (c : Cube) → diverge (negation y ∷ q) (y ∷ c) ≡ true
    back (Pos v) c = parts_apart (Neg v) q c
    back (Neg v) c = parts_apart (Pos v) q c

-- the empty cube diverges from none
pub ends_all : (cubes : List Cube) → 0 < length cubes → list_all (diverge []) cubes ≡ false
ends_all cubes some = none_all (diverge []) cubes ends_part some

-- a cube that begins with another variable diverges from none
pub never_all : (x y : Literal) (q : Cube) (left right : List Cube) → var_of x ≢ var_of y
    → 0 < length (map (λ c. y ∷ c) left ++ map (λ c. negation y ∷ c) right)
    → list_all (diverge (x ∷ q)) (map (λ c. y ∷ c) left ++ map (λ c. negation y ∷ c) right) ≡ false
never_all x y q left right n some = at left right some where
  at : (ls rs : List Cube) → 0 < length (map (λ c. y ∷ c) ls ++ map (λ c. negation y ∷ c) rs)
      → list_all (diverge (x ∷ q)) (map (λ c. y ∷ c) ls ++ map (λ c. negation y ∷ c) rs) ≡ false
  at [] [] h = absurd (omega arith)
  at [] (r ∷ rs) h = ap (λ b. b && list_all (diverge (x ∷ q)) (map (λ c. negation y ∷ c) rs)) (parts_never x (negation y) q r (λ e. n (e ∙ var_of-negation y)))
  at (l ∷ ls) rs h = ap (λ b. b && list_all (diverge (x ∷ q)) (map (λ c. y ∷ c) ls ++ map (λ c. negation y ∷ c) rs)) (parts_never x y q l n)
