-- The leaves of a tree in memory.
use Rattle.std.proofs.Common.{◌≡◌, ◌∙◌, ℕ, ◌+◌, ◌<◌, false, not, List, [], ◌∷◌, ◌++◌, length, map, refl, sym, ap, ap₂, subst, arith, length-append, append_assoc}
use Rattle.std.specs.List.{All, Contains, filter}
use Rattle.std.specs.List.Sorted.{IsPermutation}
use Rattle.std.proofs.lemmas.List.{append-nil, length-map, map-append}
use Rattle.std.proofs.lemmas.List.Elements.{All-append, All-cons, All-nil, All-weaker, Contains-append_left, Contains-append_right, filter-append}
use Rattle.std.proofs.lemmas.List.Sorted.{Contains-permutation}
use Rattle.dimacs.specs.logic.Literal.{Literal, Pos, Neg, IsWithin, negation}
use Rattle.dimacs.proofs.Members.{Contains-head}
use Rattle.icnf.specs.Leaves.{Cube, IsFree, Leaves}
use Rattle.icnf.specs.Leaves as icnf
use Rattle.cubes_to_tree.specs.Completion.{Completes, InOrder, IsBranchOff, CompletedLeaf, added_in, cubes_in, fork, given_in, one}
use Rattle.cubes_to_tree.specs.inner.Nodes.{IsBelow, IsShort, fork_given, given_below, is_empty_tree, leaf_count, leaves_below}
use Rattle.cubes_to_tree.specs.declared.node.Node.{Node, Empty, Given, Fork'}

-- ---- what is made of two lists of leaves
pub cubes_of_two : (xs ys : List CompletedLeaf) → cubes_in (xs ++ ys) ≡ cubes_in xs ++ cubes_in ys
cubes_of_two xs ys = map-append (λ (l : CompletedLeaf). l.cube) xs ys

given_of_two : (xs ys : List CompletedLeaf) → given_in (xs ++ ys) ≡ given_in xs ++ given_in ys
given_of_two xs ys =
    ap cubes_in (filter-append (λ (l : CompletedLeaf). not l.added) xs ys) ∙ cubes_of_two (filter (λ l. not l.added) xs) (filter (λ l. not l.added) ys)

added_of_two : (xs ys : List CompletedLeaf) → added_in (xs ++ ys) ≡ added_in xs ++ added_in ys
added_of_two xs ys =
    ap cubes_in (filter-append (λ (l : CompletedLeaf). l.added) xs ys) ∙ cubes_of_two (filter (λ l. l.added) xs) (filter (λ l. l.added) ys)

-- ---- how many leaves there are, and how deep
pub leaf_count-is : (path : Cube) (node : Node) → length (leaves_below path node) ≡ leaf_count node
leaf_count-is path Empty = refl
leaf_count-is path Given = refl
leaf_count-is path (Fork' v p left q right) =
    length-append (leaves_below (path ++ Pos v ∷ []) left) (leaves_below (path ++ Neg v ∷ []) right)
    ∙ ap₂ (λ m n. m + n) (leaf_count-is (path ++ Pos v ∷ []) left) (leaf_count-is (path ++ Neg v ∷ []) right)

pub cube_count-is : (path : Cube) (node : Node) → length (cubes_in (leaves_below path node)) ≡ leaf_count node
cube_count-is path node = length-map (leaves_below path node) (λ (l : CompletedLeaf). l.cube) ∙ leaf_count-is path node

one_longer : (path : Cube) (x : Literal) → length (path ++ x ∷ []) ≡ length path + 1
one_longer path x = length-append path (x ∷ [])

pub below_short : (greatest : ℕ) (path : Cube) (node : Node) → IsBelow greatest path node → IsShort (length path) node
below_short greatest path Empty h = h
below_short greatest path Given h = h
below_short greatest path (Fork' v p left q right) h = (
  subst (λ n. IsShort n left) (one_longer path (Pos v)) (below_short greatest (path ++ Pos v ∷ []) left h.3),
  subst (λ n. IsShort n right) (one_longer path (Neg v)) (below_short greatest (path ++ Neg v ∷ []) right h.4),
)

-- ---- the leaves stand in order
pub below_ordered : (greatest : ℕ) (path : Cube) (node : Node) → IsBelow greatest path node → InOrder path (cubes_in (leaves_below path node))
below_ordered greatest path Empty h = one
below_ordered greatest path Given h = one
below_ordered greatest path (Fork' v p left q right) h =
    subst (InOrder path) (sym (cubes_of_two (leaves_below (path ++ Pos v ∷ []) left) (leaves_below (path ++ Neg v ∷ []) right)))
    (fork v h.1 (below_ordered greatest (path ++ Pos v ∷ []) left h.3) (below_ordered greatest (path ++ Neg v ∷ []) right h.4))

pub ordered_leaves : {path : Cube} {cubes : List Cube} → InOrder path cubes → Leaves path cubes
ordered_leaves one = icnf.leaf
ordered_leaves (fork v free left right) = icnf.fork (Pos v) free (ordered_leaves left) (ordered_leaves right)

longer_within : (greatest : ℕ) (path : Cube) (x : Literal) → All (IsWithin greatest) path → IsWithin greatest x → All (IsWithin greatest) (path ++ x ∷ [])
longer_within greatest path x h k =
    All-append (IsWithin greatest) path (x ∷ []) h (All-cons (IsWithin greatest) x [] k (All-nil (IsWithin greatest)))

pub below_within : (greatest : ℕ) (path : Cube) (node : Node) → All (IsWithin greatest) path → IsBelow greatest path node
    → All (All (IsWithin greatest)) (cubes_in (leaves_below path node))
below_within greatest path Empty w h = All-cons (All (IsWithin greatest)) path [] w (All-nil (All (IsWithin greatest)))
below_within greatest path Given w h = All-cons (All (IsWithin greatest)) path [] w (All-nil (All (IsWithin greatest)))
below_within greatest path (Fork' v p left q right) w h =
    subst (All (All (IsWithin greatest))) (sym (cubes_of_two (leaves_below (path ++ Pos v ∷ []) left) (leaves_below (path ++ Neg v ∷ []) right)))
    (All-append (All (IsWithin greatest)) (cubes_in (leaves_below (path ++ Pos v ∷ []) left)) (cubes_in (leaves_below (path ++ Neg v ∷ []) right))
    (below_within greatest (path ++ Pos v ∷ []) left (longer_within greatest path (Pos v) w h.0) h.3)
    (below_within greatest (path ++ Neg v ∷ []) right (longer_within greatest path (Neg v) w h.0) h.4))

-- ---- the leaves that were given are the cubes that were inserted
abbrev behind : Cube → Cube → Cube
behind path q = path ++ q

step : (path : Cube) (x : Literal) (cubes : List Cube) → map (behind (path ++ x ∷ [])) cubes ≡ map (behind path) (map (λ c. x ∷ c) cubes)
step path x [] = refl
step path x (q ∷ cubes) = ap₂ (λ (c : Cube) (cs : List Cube). c ∷ cs) (append_assoc path (x ∷ []) q) (step path x cubes)

pub given_is : (path : Cube) (node : Node) → given_in (leaves_below path node) ≡ map (behind path) (given_below node)
given_is path Empty = refl
given_is path Given = ap (λ (q : Cube). q ∷ []) (sym (append-nil path))
given_is path (Fork' v p left q right) =
    given_of_two (leaves_below (path ++ Pos v ∷ []) left) (leaves_below (path ++ Neg v ∷ []) right)
    ∙ ap₂ (λ (xs ys : List Cube). xs ++ ys)
    (given_is (path ++ Pos v ∷ []) left ∙ step path (Pos v) (given_below left))
    (given_is (path ++ Neg v ∷ []) right ∙ step path (Neg v) (given_below right))
    ∙ sym (map-append (behind path) (map (λ c. Pos v ∷ c) (given_below left)) (map (λ c. Neg v ∷ c) (given_below right)))

same_cubes : (cubes : List Cube) → map (behind []) cubes ≡ cubes
same_cubes [] = refl
same_cubes (q ∷ cubes) = ap (λ (cs : List Cube). q ∷ cs) (same_cubes cubes)

pub given_root : (node : Node) → given_in (leaves_below [] node) ≡ given_below node
given_root node = given_is [] node ∙ same_cubes (given_below node)

-- ---- the leaves that were added branch off
abbrev pub HasBranchOff : List Cube → Cube → Type 0
HasBranchOff cubes leaf = (c : Cube) × Contains cubes c × IsBranchOff leaf c

first_in : (path : Cube) (cubes : List Cube) → 0 < length cubes → (q : Cube) × Contains (map (behind path) cubes) (path ++ q)
first_in path [] h = absurd (omega arith)
first_in path (q ∷ cubes) h = (q, Contains-head (path ++ q) (map (behind path) cubes))

-- the branch of a fork branches off the path of a cube, if a cube was inserted in the other branch
branch_cut : (path : Cube) (x : Literal) (other : Node) → 0 < length (given_below other)
    → HasBranchOff (given_in (leaves_below (path ++ x ∷ []) other)) (path ++ negation x ∷ [])
branch_cut path x other some =
    let f = first_in (path ++ x ∷ []) (given_below other) some in (
      (path ++ x ∷ []) ++ f.0,
      subst (λ (cs : List Cube). Contains cs ((path ++ x ∷ []) ++ f.0)) (sym (given_is (path ++ x ∷ []) other)) f.1,
      record { prefix = path; x = x; suffix = f.0; leaf_is = refl; cube_is = append_assoc path (x ∷ []) f.0 },
    )

more_left : (xs ys : List Cube) (leaves : List Cube) → All (HasBranchOff xs) leaves → All (HasBranchOff (xs ++ ys)) leaves
more_left xs ys leaves h = All-weaker (HasBranchOff xs) (HasBranchOff (xs ++ ys)) (λ q (c, inside, cut). (c, Contains-append_left xs ys c inside, cut)) leaves h

more_right : (xs ys : List Cube) (leaves : List Cube) → All (HasBranchOff ys) leaves → All (HasBranchOff (xs ++ ys)) leaves
more_right xs ys leaves h = All-weaker (HasBranchOff ys) (HasBranchOff (xs ++ ys)) (λ q (c, inside, cut). (c, Contains-append_right xs ys c inside, cut)) leaves h

some_right : (v : ℕ) (left right : Node) → given_below left ≡ [] → 0 < length (fork_given v left right) → 0 < length (given_below right)
some_right v left right none some =
    let a = length-append (map (λ c. Pos v ∷ c) (given_below left)) (map (λ c. Neg v ∷ c) (given_below right)) in
    let b = length-map (given_below left) (λ (c : Cube). Pos v ∷ c) in
    let d = length-map (given_below right) (λ (c : Cube). Neg v ∷ c) in
    let e = ap length none in
    omega arith

some_left : (v : ℕ) (left right : Node) → given_below right ≡ [] → 0 < length (fork_given v left right) → 0 < length (given_below left)
some_left v left right none some =
    let a = length-append (map (λ c. Pos v ∷ c) (given_below left)) (map (λ c. Neg v ∷ c) (given_below right)) in
    let b = length-map (given_below left) (λ (c : Cube). Pos v ∷ c) in
    let d = length-map (given_below right) (λ (c : Cube). Neg v ∷ c) in
    let e = ap length none in
    omega arith

-- the leaves of a branch: it branches off itself, or some cube was inserted below it
abbrev AreCut : List Cube → Cube → Node → Type 0
AreCut cubes path node = All (HasBranchOff cubes) (added_in (leaves_below path node))

on_left : (path : Cube) (v : ℕ) (left right : Node) → 0 < length (fork_given v left right)
    → (is_empty_tree left ≡ false → AreCut (given_in (leaves_below (path ++ Pos v ∷ []) left)) (path ++ Pos v ∷ []) left)
    → AreCut (given_in (leaves_below (path ++ Pos v ∷ []) left) ++ given_in (leaves_below (path ++ Neg v ∷ []) right)) (path ++ Pos v ∷ []) left
on_left path v Empty right some below =
    All-cons (HasBranchOff (given_in (leaves_below (path ++ Neg v ∷ []) right))) (path ++ Pos v ∷ []) []
    (branch_cut path (Neg v) right (some_right v Empty right refl some)) (All-nil (HasBranchOff (given_in (leaves_below (path ++ Neg v ∷ []) right))))
on_left path v Given right some below = All-nil (HasBranchOff (given_in (leaves_below (path ++ Pos v ∷ []) Given) ++ given_in (leaves_below (path ++ Neg v ∷ []) right)))
on_left path v (Fork' w p l q r) right some below =
    more_left (given_in (leaves_below (path ++ Pos v ∷ []) (Fork' w p l q r))) (given_in (leaves_below (path ++ Neg v ∷ []) right))
    (added_in (leaves_below (path ++ Pos v ∷ []) (Fork' w p l q r))) (below refl)

on_right : (path : Cube) (v : ℕ) (left right : Node) → 0 < length (fork_given v left right)
    → (is_empty_tree right ≡ false → AreCut (given_in (leaves_below (path ++ Neg v ∷ []) right)) (path ++ Neg v ∷ []) right)
    → AreCut (given_in (leaves_below (path ++ Pos v ∷ []) left) ++ given_in (leaves_below (path ++ Neg v ∷ []) right)) (path ++ Neg v ∷ []) right
on_right path v left Empty some below =
    more_left (given_in (leaves_below (path ++ Pos v ∷ []) left)) [] ((path ++ Neg v ∷ []) ∷ [])
    (All-cons (HasBranchOff (given_in (leaves_below (path ++ Pos v ∷ []) left))) (path ++ Neg v ∷ []) []
    (branch_cut path (Pos v) left (some_left v left Empty refl some)) (All-nil (HasBranchOff (given_in (leaves_below (path ++ Pos v ∷ []) left)))))
on_right path v left Given some below = All-nil (HasBranchOff (given_in (leaves_below (path ++ Pos v ∷ []) left) ++ given_in (leaves_below (path ++ Neg v ∷ []) Given)))
on_right path v left (Fork' w p l q r) some below =
    more_right (given_in (leaves_below (path ++ Pos v ∷ []) left)) (given_in (leaves_below (path ++ Neg v ∷ []) (Fork' w p l q r)))
    (added_in (leaves_below (path ++ Neg v ∷ []) (Fork' w p l q r))) (below refl)

both_cut : (ls rs : List CompletedLeaf)
    → All (HasBranchOff (given_in ls ++ given_in rs)) (added_in ls) → All (HasBranchOff (given_in ls ++ given_in rs)) (added_in rs)
    → All (HasBranchOff (given_in (ls ++ rs))) (added_in (ls ++ rs))
both_cut ls rs a b =
    subst (λ (cs : List Cube). All (HasBranchOff cs) (added_in (ls ++ rs))) (sym (given_of_two ls rs))
    (subst (All (HasBranchOff (given_in ls ++ given_in rs))) (sym (added_of_two ls rs))
    (All-append (HasBranchOff (given_in ls ++ given_in rs)) (added_in ls) (added_in rs) a b))

pub below_cut : (greatest : ℕ) (path : Cube) (node : Node) → IsBelow greatest path node → is_empty_tree node ≡ false → AreCut (given_in (leaves_below path node)) path node
below_cut greatest path Empty h some = absurd (cc)
below_cut greatest path Given h some = All-nil (HasBranchOff (path ∷ []))
below_cut greatest path (Fork' v p left q right) h some =
    both_cut (leaves_below (path ++ Pos v ∷ []) left) (leaves_below (path ++ Neg v ∷ []) right)
    (on_left path v left right h.2 (λ grown. below_cut greatest (path ++ Pos v ∷ []) left h.3 grown))
    (on_right path v left right h.2 (λ grown. below_cut greatest (path ++ Neg v ∷ []) right h.4 grown))

-- ---- the tree completes the cubes
pub root_completes : (greatest : ℕ) (root : Node) → IsBelow greatest [] root → is_empty_tree root ≡ false → (cubes : List Cube) → IsPermutation (given_below root) cubes
    → Completes cubes (leaves_below [] root)
root_completes greatest root h some cubes same =
    let given : IsPermutation (given_in (leaves_below [] root)) cubes = subst (λ (cs : List Cube). IsPermutation cs cubes) (sym (given_root root)) same in
    record {
      tree = below_ordered greatest [] root h;
      given = given;
      added = All-weaker (HasBranchOff (given_in (leaves_below [] root))) (HasBranchOff cubes)
          (λ q (c, inside, cut). (c, Contains-permutation (given_in (leaves_below [] root)) cubes c given inside, cut)) (added_in (leaves_below [] root))
          (below_cut greatest [] root h some);
    }
