-- A tree in memory, and what a lemma closes in it.
use Rattle.std.proofs.Common.{◌≡◌, ◌≢◌, ℕ, zero, suc, ◌+◌, ◌<◌, ◌≤◌, inl, inr, ◌⊎◌, Bool, true, false, ◌&&◌, ◌||◌, cond, Option, Some, None, List, [], ◌∷◌, ◌++◌, length, map, drop, get_or, refl, sym, ◌∙◌, ap, subst, arith, append_assoc, length-append, length-drop}
use Rattle.std.specs.Prelude.{is_some, is_none}
use Rattle.std.specs.List.{list_any, list_all}
use Rattle.std.proofs.Math.Seq.{drop-append_seam, get_or-append_seam}
use Rattle.std.proofs.lemmas.Bool.{true≢false}
use Rattle.std.proofs.lemmas.List.{append-nil, get_or-drop, map-append}
use Rattle.std.proofs.lemmas.List.Folds.{list_any-append}
use Rattle.dimacs.specs.logic.Literal.{Literal, negation, var_of}
use Rattle.icnf.specs.Leaves.{Cube, IsFree, Leaves}
use Rattle.icnf.specs.Leaves as icnf
use Rattle.log_join.specs.ClosedLeaves.{closes, Numbered, Leaf, is_closed, can_close, closed_by, settled, open_from, with_open}
use Rattle.log_join.specs.declared.lemma.Candidate.{Candidate}
use Rattle.log_join.specs.Bits.{Has}
use Rattle.log_join.specs.declared.leaf_index.Index.{Index}
use Rattle.log_join.specs.declared.places.Places.{Places}
use Rattle.log_join.specs.declared.tree.Node.{Node, Leaf as Single, Fork'}
use Rattle.log_join.specs.Trees.{leaves_in, IsSubtree, ArePlaced, AreCovered, AreOpen}
use Rattle.log_join.specs.inner.Trees.{candidate_of, AreLow, Clears, HasSettled, IsFound, IsPart, IsMadeOf, Settles, left_of, open_leaf, right_of}
use Rattle.log_join.proofs.SettleLemmas.{both}

-- ---- a lemma that closes nothing changes nothing
neither : (a b : Bool) → (a || b) ≡ false → (a ≡ false) × (b ≡ false)
neither true b f = absurd (true≢false f)
neither false b f = (refl, f)

turned_none : (l : Numbered) (k : Leaf) → can_close l k ≡ false → closed_by l k ≡ k
turned_none l k e = ap (λ b. cond {A = Leaf} b (record { cube = k.cube; closing = Some l }) k) e

pub settled_none : (l : Numbered) (leaves : List Leaf) → list_any (can_close l) leaves ≡ false → settled l leaves ≡ leaves
settled_none l [] e = refl
settled_none l (k ∷ leaves) e =
    let z = neither (can_close l k) (list_any (can_close l) leaves) e in
    ap (λ (x : Leaf). x ∷ settled l leaves) (turned_none l k z.0) ∙ ap (λ (ks : List Leaf). k ∷ ks) (settled_none l leaves z.1)

closed_none : (l : Numbered) (leaves : List Leaf) → list_all is_closed leaves ≡ true → list_any (can_close l) leaves ≡ false
closed_none l [] e = refl
closed_none l (k ∷ leaves) e =
    let z = both (is_closed k) (list_all is_closed leaves) e in
    ap (λ b. b || list_any (can_close l) leaves) (at k.closing z.0) ∙ closed_none l leaves z.1
  where
    at : (o : Option Numbered) → is_some o ≡ true → (is_none o && closes k.cube l.clause) ≡ false
    at None f = absurd (true≢false (sym f))
    at (Some x) f = refl

pub unchanged : (l : Numbered) (path : Cube) (node : Node) → IsSubtree path node → list_any (can_close l) (leaves_in node) ≡ false → HasSettled l path node node false
unchanged l path node h e = record { tree = h; leaves = sym (settled_none l (leaves_in node) e); told = sym e; covers = λ index from c. c }

-- a subtree whose leaves are all closed
pub closed_unchanged : (l : Numbered) (path : Cube) (node : Node) → IsSubtree path node → list_all is_closed (leaves_in node) ≡ true → HasSettled l path node node false
closed_unchanged l path node h e = unchanged l path node h (closed_none l (leaves_in node) e)

-- ---- places
pub placed_inside : (from to : ℕ) (node : Node) → ArePlaced from to node → from < to
placed_inside from to (Single cube closing) h = h
placed_inside from to (Fork' branch middle closed p left q right) (a, b) = let l = placed_inside from middle left a in let r = placed_inside middle to right b in omega arith

pub placed_wider : (from to more : ℕ) (node : Node) → to ≤ more → ArePlaced from to node → ArePlaced from more node
placed_wider from to more (Single cube closing) up h = omega arith
placed_wider from to more (Fork' branch middle closed p left q right) up (a, b) = (a, placed_wider middle to more right up b)

pub placed_low : (from to : ℕ) (node : Node) → ArePlaced from to node → to ≤ 65536 → AreLow from node
placed_low from to (Single cube closing) h limit = omega arith
placed_low from to (Fork' branch middle closed p left q right) (a, b) limit =
    let high : middle < to = placed_inside middle to right b in (placed_low from middle left a (omega arith), placed_low middle to right b limit)

-- a set that keeps the places of a subtree
pub open_kept : (a b : List ℕ) (from to : ℕ) (node : Node) → ArePlaced from to node → ((p : ℕ) → from ≤ p → p < to → Has a p → Has b p) → AreOpen a from node → AreOpen b from node
open_kept a b from to (Single cube closing) placed keeps h = λ none. keeps from (omega arith) placed (h none)
open_kept a b from to (Fork' branch middle closed p left q right) (c, d) keeps (e, f) =
    let low : from < middle = placed_inside from middle left c in
    let high : middle < to = placed_inside middle to right d in
    (open_kept a b from middle left c (λ p up down. keeps p up (omega arith)) e, open_kept a b middle to right d (λ p up down. keeps p (omega arith) down) f)

pub open_all : (a : List ℕ) (from to : ℕ) (node : Node) → ArePlaced from to node → ((p : ℕ) → p < to → Has a p) → AreOpen a from node
open_all a from to (Single cube closing) placed all = λ none. all from placed
open_all a from to (Fork' branch middle closed p left q right) (c, d) all =
    let high : middle < to = placed_inside middle to right d in
    (open_all a from middle left c (λ p down. all p (omega arith)), open_all a middle to right d all)

-- ---- a fork
pub fork_settled : (l : Numbered) (path : Cube) (left right left' right' : Node) (one two some : Bool)
    → HasSettled l path left left' one → (path' : Cube) → HasSettled l path' right right' two → some ≡ (one || two)
    → (leaves_in left' ++ leaves_in right' ≡ settled l (leaves_in left ++ leaves_in right)) × (some ≡ list_any (can_close l) (leaves_in left ++ leaves_in right))
fork_settled l path left right left' right' one two some a path' b e = (
  ap (λ (ks : List Leaf). ks ++ leaves_in right') a.leaves ∙ ap (λ (ks : List Leaf). settled l (leaves_in left) ++ ks) b.leaves ∙ sym (map-append (closed_by l) (leaves_in left) (leaves_in right)),
  e ∙ ap (λ c. c || two) a.told ∙ ap (λ c. list_any (can_close l) (leaves_in left) || c) b.told ∙ sym (list_any-append (can_close l) (leaves_in left) (leaves_in right)),
)

-- ---- places of open leaves
pub open_append : (i : ℕ) (xs ys : List Leaf) → open_from i (xs ++ ys) ≡ open_from i xs ++ open_from (i + length xs) ys
open_append i [] ys = ap (λ (n : ℕ). open_from n ys) (let e : i ≡ i + 0 = omega arith in e)
open_append i (k ∷ xs) ys =
    ap (with_open (is_closed k) i) (open_append (i + 1) xs ys ∙ ap (λ (n : ℕ). open_from (i + 1) xs ++ open_from n ys) (let e : (i + 1) + length xs ≡ i + suc (length xs) = omega arith in e))
    ∙ at (is_closed k)
  where
    at : (b : Bool) → with_open b i (open_from (i + 1) xs ++ open_from (i + suc (length xs)) ys) ≡ with_open b i (open_from (i + 1) xs) ++ open_from (i + suc (length xs)) ys
    at true = refl
    at false = refl

pub open_two : (i : ℕ) (xs ys : List Leaf) (a b c : List ℕ) (j : ℕ) → b ≡ a ++ open_from i xs → j ≡ i + length xs → c ≡ b ++ open_from j ys → c ≡ a ++ open_from i (xs ++ ys)
open_two i xs ys a b c j e f g =
    g ∙ ap (λ (zs : List ℕ). zs ++ open_from j ys) e ∙ ap (λ (n : ℕ). (a ++ open_from i xs) ++ open_from n ys) f
    ∙ append_assoc a (open_from i xs) (open_from (i + length xs) ys) ∙ ap (λ (zs : List ℕ). a ++ zs) (sym (open_append i xs ys))

-- ---- the part of a tree that a subtree is made of
drop_nil : {X : Type 0} (n : ℕ) → ◌≡◌ {A = List X} (drop n []) []
drop_nil zero = refl
drop_nil (suc n) = refl

drop_drop : {X : Type 0} (n m : ℕ) (xs : List X) → drop m (drop n xs) ≡ drop (n + m) xs
drop_drop zero m xs = ap (λ (k : ℕ). drop k xs) (let e : m ≡ 0 + m = omega arith in e)
drop_drop {X} (suc n) m [] = drop_nil {X = X} m ∙ sym (drop_nil {X = X} (suc n + m))
drop_drop (suc n) m (x ∷ xs) = drop_drop n m xs ∙ ap (λ (k : ℕ). drop k (x ∷ xs)) (let e : suc (n + m) ≡ suc n + m = omega arith in e)

pub drop_more : {X : Type 0} (n : ℕ) (xs front back : List X) → drop n xs ≡ front ++ back → drop (n + length front) xs ≡ back
drop_more n xs front back e = sym (drop_drop n (length front) xs) ∙ ap (drop (length front)) e ∙ drop-append_seam front back

some_left : {X : Type 0} (n : ℕ) (xs : List X) (x : X) (more : List X) → drop n xs ≡ x ∷ more → n < length xs
some_left n xs x more e = let a = length-drop n xs in let b : length (drop n xs) ≡ length (x ∷ more) = ap length e in omega arith

at_place : {X : Type 0} (n : ℕ) (xs : List X) (x d : X) (more : List X) → drop n xs ≡ x ∷ more → get_or xs n d ≡ x
at_place n xs x d more e = sym (get_or-drop n xs 0 d ∙ ap (λ (k : ℕ). get_or xs k d) (let z : n + 0 ≡ n = omega arith in z)) ∙ ap (λ ys. get_or ys 0 d) e

first_of : {path : Cube} {here : List Cube} → Leaves path here → (rest : Cube) × (others : List Cube) × (here ≡ (path ++ rest) ∷ others)
first_of (icnf.leaf {path = path}) = ([], [], ap (λ (q : Cube). q ∷ []) (sym (append-nil path)))
first_of (icnf.fork {path = path} {left = a} {right = b} x free first second) =
    let f = first_of first in
    (x ∷ f.0, f.1 ++ b, ap (λ (cs : List Cube). cs ++ b) f.2 ∙ ap (λ (q : Cube). q ∷ f.1 ++ b) (append_assoc path (x ∷ []) f.0))

pub part_inside : (cubes : List Cube) (next depth : ℕ) → IsPart cubes next depth → next < length cubes
part_inside cubes next depth h =
    let f = first_of h.leaves in
    some_left next cubes (h.path ++ f.0) (f.1 ++ h.later) (h.are ∙ ap (λ (cs : List Cube). cs ++ h.later) f.2)

pub record IsForkPart (path : Cube) (here : List Cube) : Type 0 where
  pub x : Literal
  pub free : IsFree path (var_of x)
  pub left : List Cube
  pub right : List Cube
  pub first : Leaves (path ++ x ∷ []) left
  pub second : Leaves (path ++ negation x ∷ []) right
  pub is : here ≡ left ++ right

leaf_or_fork : {path : Cube} {here : List Cube} → Leaves path here → (here ≡ path ∷ []) ⊎ IsForkPart path here
leaf_or_fork (icnf.leaf {path = path}) = inl refl
leaf_or_fork (icnf.fork {path = path} {left = a} {right = b} x free first second) = inr (record { x = x; free = free; left = a; right = b; first = first; second = second; is = refl })

pub record IsForkAt (cubes : List Cube) (next depth : ℕ) (h : IsPart cubes next depth) (cube : Cube) : Type 0 where
  pub fork : IsForkPart h.path h.here
  pub deep : depth < length cube
  pub literal : (d : Literal) → get_or cube depth d ≡ fork.x

cases_at : (cubes : List Cube) (next depth : ℕ) (h : IsPart cubes next depth) (cube : Cube) → get_or cubes next [] ≡ cube
    → ((length cube ≡ depth) × (h.here ≡ h.path ∷ []) × (cube ≡ h.path)) ⊎ IsForkAt cubes next depth h cube
cases_at cubes next depth h cube is = elim (leaf_or_fork h.leaves) [
  | inl single ↦
      let same_cube : cube ≡ h.path = sym is ∙ at_place next cubes h.path [] h.later (h.are ∙ ap (λ (cs : List Cube). cs ++ h.later) single) in
      inl (ap length same_cube ∙ h.long, single, same_cube)
  | inr f ↦
      let g = first_of f.first in
      let whole : cube ≡ (h.path ++ f.x ∷ []) ++ g.0 =
      sym is ∙ at_place next cubes ((h.path ++ f.x ∷ []) ++ g.0) [] ((g.1 ++ f.right) ++ h.later) (h.are ∙ ap (λ (cs : List Cube). cs ++ h.later) (f.is ∙ ap (λ (cs : List Cube). cs ++ f.right) g.2)) in
      let seam : cube ≡ h.path ++ f.x ∷ g.0 = whole ∙ append_assoc h.path (f.x ∷ []) g.0 in
      inr (record {
        fork = f;
        deep = (let a : length cube ≡ length (h.path ++ f.x ∷ g.0) = ap length seam in let b = length-append h.path (f.x ∷ g.0) in let c = h.long in omega arith);
        literal = λ d. ap (λ (q : Cube). get_or q depth d) seam ∙ ap (λ (n : ℕ). get_or (h.path ++ f.x ∷ g.0) n d) (sym h.long) ∙ get_or-append_seam h.path f.x g.0 d;
      })
]

pub at_leaf : (cubes : List Cube) (next depth : ℕ) (h : IsPart cubes next depth) (cube : Cube) → get_or cubes next [] ≡ cube → length cube ≡ depth → (h.here ≡ h.path ∷ []) × (cube ≡ h.path)
at_leaf cubes next depth h cube is long = elim (cases_at cubes next depth h cube is) [
  | inl a ↦ (a.1, a.2)
  | inr f ↦ (let d = f.deep in absurd (omega arith))
]

pub at_fork : (cubes : List Cube) (next depth : ℕ) (h : IsPart cubes next depth) (cube : Cube) → get_or cubes next [] ≡ cube → length cube ≢ depth → IsForkAt cubes next depth h cube
at_fork cubes next depth h cube is long = elim (cases_at cubes next depth h cube is) [
  | inl a ↦ absurd (long a.0)
  | inr f ↦ f
]

module _ (cubes : List Cube) (next depth : ℕ) (h : IsPart cubes next depth) (cube : Cube) (f : IsForkAt cubes next depth h cube) where
  abbrev pub first_part : IsPart cubes next (depth + 1)
  first_part = record {
    path = h.path ++ f.fork.x ∷ [];
    here = f.fork.left;
    later = f.fork.right ++ h.later;
    long = length-append h.path (f.fork.x ∷ []) ∙ ap (λ (n : ℕ). n + 1) h.long;
    leaves = f.fork.first;
    are = h.are ∙ ap (λ (cs : List Cube). cs ++ h.later) f.fork.is ∙ append_assoc f.fork.left f.fork.right h.later;
  }

  abbrev pub second_part : (middle : ℕ) → middle ≡ next + length f.fork.left → IsPart cubes middle (depth + 1)
  second_part middle e = record {
    path = h.path ++ negation f.fork.x ∷ [];
    here = f.fork.right;
    later = h.later;
    long = length-append h.path (negation f.fork.x ∷ []) ∙ ap (λ (n : ℕ). n + 1) h.long;
    leaves = f.fork.second;
    are = ap (λ (n : ℕ). drop n cubes) e ∙ drop_more next cubes f.fork.left (f.fork.right ++ h.later) (first_part).are;
  }

  pub both_length : (middle after : ℕ) → middle ≡ next + length f.fork.left → after ≡ middle + length f.fork.right → after ≡ next + length h.here
  both_length middle after a b = let e : length h.here ≡ length (f.fork.left ++ f.fork.right) = ap length f.fork.is in let l = length-append f.fork.left f.fork.right in omega arith

some_open : {path : Cube} {here : List Cube} → Leaves path here → (more : List Leaf) → list_all is_closed (map open_leaf here ++ more) ≡ false
some_open h more = let f = first_of h in ap (λ (cs : List Cube). list_all is_closed (map open_leaf cs ++ more)) f.2

pub leaf_made : (path : Cube) (here : List Cube) (cube items : Cube) → here ≡ path ∷ [] → cube ≡ path → items ≡ cube → (items ≡ path) × (record { cube = items; closing = None } ∷ [] ≡ map open_leaf here)
leaf_made path here cube items single same_cube e = (e ∙ same_cube, ap (λ (q : Cube). open_leaf q ∷ []) (e ∙ same_cube) ∙ ap (map open_leaf) (sym single))

pub fork_made : (path : Cube) (here : List Cube) (f : IsForkPart path here) (left right : Node) → IsMadeOf (path ++ f.x ∷ []) f.left left → IsMadeOf (path ++ negation f.x ∷ []) f.right right
    → (false ≡ list_all is_closed (leaves_in left ++ leaves_in right)) × (leaves_in left ++ leaves_in right ≡ map open_leaf here)
fork_made path here f left right a b = (
  sym (ap (λ (ks : List Leaf). list_all is_closed (ks ++ leaves_in right)) a.leaves ∙ some_open f.first (leaves_in right)),
  ap (λ (ks : List Leaf). ks ++ leaves_in right) a.leaves ∙ ap (λ (ks : List Leaf). map open_leaf f.left ++ ks) b.leaves ∙ sym (map-append open_leaf f.left f.right) ∙ ap (map open_leaf) (sym f.is),
)

-- a fork in memory that was made of a part
pub record FormsFork (path : Cube) (here : List Cube) (x : Literal) (l r : Node) : Type 0 where
  pub free : IsFree path (var_of x)
  pub marked : false ≡ list_all is_closed (leaves_in l ++ leaves_in r)
  pub left : IsSubtree (path ++ x ∷ []) l
  pub right : IsSubtree (path ++ negation x ∷ []) r
  pub leaves : leaves_in l ++ leaves_in r ≡ map open_leaf here

pub forms_fork : (path : Cube) (here : List Cube) (f : IsForkPart path here) (x : Literal) → x ≡ f.x → (left right l r : Node) → l ≡ left → r ≡ right
    → IsMadeOf (path ++ f.x ∷ []) f.left left → IsMadeOf (path ++ negation f.x ∷ []) f.right right → FormsFork path here x l r
forms_fork path here f x e left right l r el er a b =
    let z = fork_made path here f left right a b in
    subst (λ (y : Literal). FormsFork path here y l r) (sym e) (subst (λ (n : Node). FormsFork path here f.x n r) (sym el) (subst (λ (n : Node). FormsFork path here f.x left n) (sym er)
    (record { free = f.free; marked = z.0; left = a.tree; right = b.tree; leaves = z.1 })))

-- a fork in memory after a lemma
pub record BecomesFork (l : Numbered) (path : Cube) (x : Literal) (left right left' right' : Node) (closed some : Bool) : Type 0 where
  pub marked : closed ≡ list_all is_closed (leaves_in left' ++ leaves_in right')
  pub first : IsSubtree (path ++ x ∷ []) left'
  pub second : IsSubtree (path ++ negation x ∷ []) right'
  pub leaves : leaves_in left' ++ leaves_in right' ≡ settled l (leaves_in left ++ leaves_in right)
  pub told : some ≡ list_any (can_close l) (leaves_in left ++ leaves_in right)
  pub first_covers : (index : Index) (from : ℕ) → AreCovered index from left → AreCovered index from left'
  pub second_covers : (index : Index) (from : ℕ) → AreCovered index from right → AreCovered index from right'

pub becomes_fork : (l : Candidate) (path : Cube) (index : Index) (unclosed : List ℕ) (x : Literal) (left right a b left' right' : Node) (at one_at two_at : Places) (middle : ℕ) (closed one two some : Bool)
    → IsSubtree (path ++ x ∷ []) left → IsSubtree (path ++ negation x ∷ []) right → ArePlaced at.from middle left → ArePlaced middle at.to right → at.to ≤ 65536
    → AreCovered index at.from left → AreCovered index middle right → AreOpen unclosed at.from left → AreOpen unclosed middle right → IsFound index unclosed l.clause.now l.found.now
    → a ≡ left → b ≡ right → one_at ≡ left_of middle at → two_at ≡ right_of middle at → Settles l one_at a left' one → Settles l two_at b right' two
    → ((p q : Cube) → IsSubtree p left' → IsSubtree q right' → closed ≡ list_all is_closed (leaves_in left' ++ leaves_in right')) → some ≡ (one || two)
    → BecomesFork (candidate_of l) path x left right left' right' closed some
becomes_fork l path index unclosed x left right a b left' right' at one_at two_at middle closed one two some h g pl pr limit cl cr ol or found ea eb el er first second marks told =
    let first' : Settles l (left_of middle at) left left' one = subst (λ (z : Places). Settles l z left left' one) el (subst (λ (n : Node). Settles l one_at n left' one) ea first) in
    let second' : Settles l (right_of middle at) right right' two = subst (λ (z : Places). Settles l z right right' two) er (subst (λ (n : Node). Settles l two_at n right' two) eb second) in
    let inside : middle < at.to = placed_inside middle at.to right pr in
    let p : HasSettled (candidate_of l) (path ++ x ∷ []) left left' one = first' (path ++ x ∷ []) index unclosed h pl (omega arith) cl ol found in
    let q : HasSettled (candidate_of l) (path ++ negation x ∷ []) right right' two = second' (path ++ negation x ∷ []) index unclosed g pr limit cr or found in
    let z = fork_settled (candidate_of l) (path ++ x ∷ []) left right left' right' one two some p (path ++ negation x ∷ []) q told in
    record { marked = marks (path ++ x ∷ []) (path ++ negation x ∷ []) p.tree q.tree; first = p.tree; second = q.tree; leaves = z.0; told = z.1; first_covers = p.covers; second_covers = q.covers }

-- what a fork's branches make of the set of open places
pub record ClearsFork (at : Places) (middle : ℕ) (a b : List ℕ) (left right left' right' : Node) : Type 0 where
  pub outside : (p : ℕ) → p < at.from ⊎ at.to ≤ p → Has a p → Has b p
  pub placed : ArePlaced at.from middle left' × ArePlaced middle at.to right'
  pub first : AreOpen a at.from left → AreOpen b at.from left'
  pub second : AreOpen a middle right → AreOpen b middle right'

clears_both : (at : Places) (middle : ℕ) (a m b : List ℕ) (left right left' right' : Node) → ArePlaced at.from middle left → ArePlaced middle at.to right
    → Clears (left_of middle at) a m left left' → Clears (right_of middle at) m b right right' → ClearsFork at middle a b left right left' right'
clears_both at middle a m b left right left' right' pl pr first second =
    let low : at.from < middle = placed_inside at.from middle left pl in
    let high : middle < at.to = placed_inside middle at.to right pr in
    record {
      outside = λ p far h. elim far [
        | inl before ↦ second.outside p (inl (omega arith)) (first.outside p (inl before) h)
        | inr behind ↦ second.outside p (inr behind) (first.outside p (inr (omega arith)) h)
      ];
      placed = (first.placed, second.placed);
      first = λ h. open_kept m b at.from middle left' first.placed (λ p up down. second.outside p (inl down)) (first.left h);
      second = λ h. second.left (open_kept a m middle at.to right pr (λ p up down. first.outside p (inr up)) h);
    }

pub clears_fork : (at one_at two_at : Places) (middle : ℕ) (x m y : List ℕ) (left right a b left' right' : Node) → ArePlaced at.from middle left → ArePlaced middle at.to right
    → a ≡ left → b ≡ right → one_at ≡ left_of middle at → two_at ≡ right_of middle at
    → (ArePlaced one_at.from one_at.to a → Clears one_at x m a left') → (ArePlaced two_at.from two_at.to b → Clears two_at m y b right') → ClearsFork at middle x y left right left' right'
clears_fork at one_at two_at middle x m y left right a b left' right' pl pr ea eb el er first second =
    clears_both at middle x m y left right left' right' pl pr
    (subst (λ (z : Places). ArePlaced z.from z.to left → Clears z x m left left') el (subst (λ (n : Node). ArePlaced one_at.from one_at.to n → Clears one_at x m n left') ea first) pl)
    (subst (λ (z : Places). ArePlaced z.from z.to right → Clears z m y right right') er (subst (λ (n : Node). ArePlaced two_at.from two_at.to n → Clears two_at m y n right') eb second) pr)

-- a subtree that stays as it is
pub clears_none : (at : Places) (a : List ℕ) (node : Node) → ArePlaced at.from at.to node → Clears at a a node node
clears_none at a node placed = record { outside = λ p far h. h; placed = placed; left = λ h. h }
