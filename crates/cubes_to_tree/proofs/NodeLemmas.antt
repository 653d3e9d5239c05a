-- Inserting a cube below a node.
use Rattle.std.proofs.Common.{◌≡◌, ◌≢◌, ◌∙◌, ℕ, ◌<◌, ◌≤◌, Bool, true, false, List, [], ◌∷◌, ◌++◌, length, map, refl, sym, ap, subst, arith, length-append}
use Rattle.std.specs.List.{list_all}
use Rattle.std.specs.List.Sorted.{IsPermutation}
use Rattle.std.proofs.lemmas.List.Sorted.{IsPermutation-append_left, IsPermutation-append_right, IsPermutation-map, IsPermutation-middle, IsPermutation-refl, IsPermutation-trans, length_permutation}
use Rattle.dimacs.specs.logic.Literal.{Literal, Pos, Neg, is_negative, var_of}
use Rattle.icnf.specs.Leaves.{Cube}
use Rattle.cubes_to_tree.specs.Divergence.{diverge}
use Rattle.cubes_to_tree.specs.inner.Cubes.{IsRest}
use Rattle.cubes_to_tree.specs.inner.Nodes.{IsBelow, IsForkOf, PutOutcome, fork_given, given_below}
use Rattle.cubes_to_tree.specs.declared.node.Node.{Node, Empty, Given}
use Rattle.cubes_to_tree.proofs.DivergenceLemmas.{all_behind, all_other, ends_all, never_all}

some_more : {X : Type 0} (xs ys : List X) (x : X) → IsPermutation xs (x ∷ ys) → 0 < length xs
some_more xs ys x h = let e = length_permutation xs (x ∷ ys) h in omega arith

-- ---- a literal of a fork's variable
positive_is : (x : Literal) (v : ℕ) → var_of x ≡ v → is_negative x ≡ false → x ≡ Pos v
positive_is (Pos w) v e h = ap Pos e
positive_is (Neg w) v e h = absurd (cc)

negative_is : (x : Literal) (v : ℕ) → var_of x ≡ v → is_negative x ≡ true → x ≡ Neg v
negative_is (Pos w) v e h = absurd (cc)
negative_is (Neg w) v e h = ap Neg e

-- ---- a fork in the making
pub not_deep : (path : Cube) (x : Literal) → length path < 64 → length (path ++ x ∷ []) ≤ 64
not_deep path x h = let e = length-append path (x ∷ []) in omega arith

-- ---- a cube goes on in a branch of a fork
moved_left : (v : ℕ) (left left' right : Node) (rest : Cube) → IsPermutation (given_below left') (rest ∷ given_below left)
    → IsPermutation (fork_given v left' right) ((Pos v ∷ rest) ∷ fork_given v left right)
moved_left v left left' right rest h =
    IsPermutation-append_left (map (λ c. Neg v ∷ c) (given_below right)) (map (λ c. Pos v ∷ c) (given_below left')) (map (λ c. Pos v ∷ c) (rest ∷ given_below left))
    (IsPermutation-map (λ (c : Cube). Pos v ∷ c) (given_below left') (rest ∷ given_below left) h)

moved_right : (v : ℕ) (left right right' : Node) (rest : Cube) → IsPermutation (given_below right') (rest ∷ given_below right)
    → IsPermutation (fork_given v left right') ((Neg v ∷ rest) ∷ fork_given v left right)
moved_right v left right right' rest h =
    IsPermutation-trans (fork_given v left right') (map (λ c. Pos v ∷ c) (given_below left) ++ map (λ c. Neg v ∷ c) (rest ∷ given_below right)) ((Neg v ∷ rest) ∷ fork_given v left right)
    (IsPermutation-append_right (map (λ c. Pos v ∷ c) (given_below left)) (map (λ c. Neg v ∷ c) (given_below right')) (map (λ c. Neg v ∷ c) (rest ∷ given_below right))
    (IsPermutation-map (λ (c : Cube). Neg v ∷ c) (given_below right') (rest ∷ given_below right) h))
    (IsPermutation-middle (map (λ c. Pos v ∷ c) (given_below left)) (Neg v ∷ rest) (map (λ c. Neg v ∷ c) (given_below right)))

-- what a permutation says of a fork, as the nodes have it
of_forks : (v : ℕ) (left right left' right' old new : Node) (c : Cube) → IsForkOf v left right old → IsForkOf v left' right' new
    → IsPermutation (fork_given v left' right') (c ∷ fork_given v left right) → IsPermutation (given_below new) (c ∷ given_below old)
of_forks v left right left' right' old new c was is h =
    subst (λ (gs : List Cube). IsPermutation gs (c ∷ given_below old)) (sym is.given)
    (subst (λ (gs : List Cube). IsPermutation (fork_given v left' right') (c ∷ gs)) (sym was.given) h)

module _ (v : ℕ) (left right old new : Node) (rest : Cube) (was : IsForkOf v left right old) where
  pub put_left : (left' : Node) (b : Bool) → IsForkOf v left' right new → PutOutcome rest left b left' → PutOutcome (Pos v ∷ rest) old b new
  put_left left' true is h =
      let moved = moved_left v left left' right rest h.given in
      record {
        given = of_forks v left right left' right old new (Pos v ∷ rest) was is moved;
        diverge = ap (list_all (diverge (Pos v ∷ rest))) was.given ∙ all_behind (Pos v) rest (given_below left) (given_below right) ∙ h.diverge;
        below = λ greatest path b q.
            let f = was.has greatest path b in
            is.makes greatest path (f.0, f.1, some_more (fork_given v left' right) (fork_given v left right) (Pos v ∷ rest) moved, h.below greatest (path ++ Pos v ∷ []) f.3 q.3, f.4);
      }
  put_left left' false is h = λ greatest path b.
      let f = was.has greatest path b in
      ap (list_all (diverge (Pos v ∷ rest))) was.given ∙ all_behind (Pos v) rest (given_below left) (given_below right) ∙ h greatest (path ++ Pos v ∷ []) f.3

  pub put_right : (right' : Node) (b : Bool) → IsForkOf v left right' new → PutOutcome rest right b right' → PutOutcome (Neg v ∷ rest) old b new
  put_right right' true is h =
      let moved = moved_right v left right right' rest h.given in
      record {
        given = of_forks v left right left right' old new (Neg v ∷ rest) was is moved;
        diverge = ap (list_all (diverge (Neg v ∷ rest))) was.given ∙ all_other (Pos v) rest (given_below left) (given_below right) ∙ h.diverge;
        below = λ greatest path b q.
            let f = was.has greatest path b in
            is.makes greatest path (f.0, f.1, some_more (fork_given v left right') (fork_given v left right) (Neg v ∷ rest) moved, f.3, h.below greatest (path ++ Neg v ∷ []) f.4 q.3);
      }
  put_right right' false is h = λ greatest path b.
      let f = was.has greatest path b in
      ap (list_all (diverge (Neg v ∷ rest))) was.given ∙ all_other (Pos v) rest (given_below left) (given_below right) ∙ h greatest (path ++ Neg v ∷ []) f.4

-- as the code has the cube: its first literal and the rest
pub put_left_of : (v : ℕ) (left right old new : Node) (cube rest : Cube) (x : Literal) → cube ≡ x ∷ rest → var_of x ≡ v → is_negative x ≡ false
    → IsForkOf v left right old → (left' : Node) (b : Bool) → IsForkOf v left' right new → PutOutcome rest left b left' → PutOutcome cube old b new
put_left_of v left right old new cube rest x e var sign was left' b is h =
    subst (λ (q : Cube). PutOutcome q old b new) (sym (e ∙ ap (λ (y : Literal). y ∷ rest) (positive_is x v var sign))) (put_left v left right old new rest was left' b is h)

pub put_right_of : (v : ℕ) (left right old new : Node) (cube rest : Cube) (x : Literal) → cube ≡ x ∷ rest → var_of x ≡ v → is_negative x ≡ true
    → IsForkOf v left right old → (right' : Node) (b : Bool) → IsForkOf v left right' new → PutOutcome rest right b right' → PutOutcome cube old b new
put_right_of v left right old new cube rest x e var sign was right' b is h =
    subst (λ (q : Cube). PutOutcome q old b new) (sym (e ∙ ap (λ (y : Literal). y ∷ rest) (negative_is x v var sign))) (put_right v left right old new rest was right' b is h)

-- ---- a cube that does not diverge from those below
pub ends_above : (cube : Cube) (old new : Node) (v : ℕ) (left right : Node) → IsForkOf v left right old → cube ≡ [] → PutOutcome cube old false new
ends_above cube old new v left right was e = λ greatest path b.
    let f = was.has greatest path b in
    ap (λ (q : Cube). list_all (diverge q) (given_below old)) e ∙ ap (list_all (diverge [])) was.given ∙ ends_all (fork_given v left right) f.2

pub goes_apart : (cube rest : Cube) (x : Literal) (old new : Node) (v : ℕ) (left right : Node) → IsForkOf v left right old → cube ≡ x ∷ rest → var_of x ≢ v → PutOutcome cube old false new
goes_apart cube rest x old new v left right was e n = λ greatest path b.
    let f = was.has greatest path b in
    ap (λ (q : Cube). list_all (diverge q) (given_below old)) e ∙ ap (list_all (diverge (x ∷ rest))) was.given
    ∙ never_all x (Pos v) rest (given_below left) (given_below right) n f.2

pub at_given : (cube : Cube) (new : Node) → PutOutcome cube Given false new
at_given cube new = λ greatest path b. at cube where
  at : (q : Cube) → list_all (diverge q) (given_below Given) ≡ false
  at [] = refl
  at (x ∷ q) = refl

-- ---- a cube is inserted at an empty leaf
pub at_cut : (cube : Cube) (new : Node) → given_below new ≡ cube ∷ [] → ((greatest : ℕ) (path : Cube) → IsRest greatest path cube → IsBelow greatest path new) → PutOutcome cube Empty true new
at_cut cube new e below = record {
  given = subst (λ (gs : List Cube). IsPermutation gs (cube ∷ [])) (sym e) (IsPermutation-refl (cube ∷ []));
  diverge = refl;
  below = λ greatest path b q. below greatest path q;
}

pub nothing_left : (q : Cube) → length q ≡ 0 → q ≡ []
nothing_left [] h = refl
nothing_left (x ∷ q) h = absurd (omega arith)
