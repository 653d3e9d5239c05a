-- The leaves and their fragments determine the tree, and so the joined text.
use Rattle.std.proofs.Common.{◌≡◌, ℕ, max, ◌≤◌, List, [], ◌∷◌, ◌++◌, length, refl, sym, ◌∙◌, ap, subst, arith, append_assoc, length-append}
use Rattle.std.proofs.lemmas.List.{append-nil}
use Rattle.dimacs.specs.logic.Cnf.{Cnf}
use Rattle.dimacs.specs.logic.Literal.{Literal, negation}
use Rattle.icnf.specs.Leaves.{Cube, IsFree, Leaves}
use Rattle.icnf.specs.Leaves as icnf
use Rattle.lrat_text.specs.declared.step.Step.{Step}
use Rattle.proof_join.specs.JoinedProof.{Closed, leaf, fork, fragments, cubes, AreFree, joined_text, AreSpelled, Joined, AllClose}
use Rattle.lrat_text.specs.Log.{log_top}
use Rattle.lrat_text.proofs.LineLemmas.{spells_more}
use Rattle.proof_join.proofs.JoinLemmas.{spelled_once}

-- ---- one tree
-- a subtree's first leaf lies after its path
pub first_cube : (path : Cube) (tree : Closed) → (rest : Cube) × (others : List Cube) × (cubes path tree ≡ (path ++ rest) ∷ others)
first_cube path (leaf steps) = ([], [], ap (λ (q : Cube). q ∷ []) (sym (append-nil path)))
first_cube path (fork x left right) =
    let f = first_cube (path ++ x ∷ []) left in
    (x ∷ f.0, f.1 ++ cubes (path ++ negation x ∷ []) right, ap (λ (cs : List Cube). cs ++ cubes (path ++ negation x ∷ []) right) f.2 ∙ ap (λ (q : Cube). q ∷ f.1 ++ cubes (path ++ negation x ∷ []) right) (append_assoc path (x ∷ []) f.0))

same_tail : {X : Type 0} (x y : X) (xs ys : List X) → ◌≡◌ {A = List X} (x ∷ xs) (y ∷ ys) → xs ≡ ys
same_tail x y xs ys e = cc

same_first : {X : Type 0} (x y : X) (xs ys : List X) → ◌≡◌ {A = List X} (x ∷ xs) (y ∷ ys) → x ≡ y
same_first x y xs ys e = cc

not_longer : (path rest : Cube) (x : Literal) → path ≡ path ++ x ∷ rest → ⊥
not_longer path rest x e = let a = ap length e in let b = length-append path (x ∷ rest) in omega arith

same_next : (path : Cube) (x y : Literal) (xs ys : Cube) → path ++ x ∷ xs ≡ path ++ y ∷ ys → x ≡ y
same_next [] x y xs ys e = same_first x y xs ys e
same_next (l ∷ path) x y xs ys e = same_next path x y xs ys (same_tail l l (path ++ x ∷ xs) (path ++ y ∷ ys) e)

-- the first leaf below a fork lies after its path and its literal
pub first_fork : (path : Cube) (x : Literal) (left right : Closed) (later : List Cube) → (rest : Cube) × (others : List Cube) × (cubes path (fork x left right) ++ later ≡ (path ++ x ∷ rest) ∷ others)
first_fork path x left right later =
    let f = first_cube (path ++ x ∷ []) left in
    let more : List Cube = cubes (path ++ negation x ∷ []) right in
    (f.0, (f.1 ++ more) ++ later, ap (λ (cs : List Cube). (cs ++ more) ++ later) f.2 ∙ ap (λ (q : Cube). q ∷ ((f.1 ++ more) ++ later)) (append_assoc path (x ∷ []) f.0))

leaf_fork : (path : Cube) (x : Literal) (left right : Closed) (later others : List Cube) → path ∷ later ≡ cubes path (fork x left right) ++ others → ⊥
leaf_fork path x left right later others e =
    let f = first_fork path x left right others in
    not_longer path f.0 x (same_first path (path ++ x ∷ f.0) later f.1 (e ∙ f.2))

-- the same tree, with the same cubes and fragments after it
record AreOne (one two : Closed) (cs ds : List Cube) (ss ts : List (List Step)) : Type 0 where
  pub same : one ≡ two
  pub leaves : cs ≡ ds
  pub steps : ss ≡ ts

one_tree : (path : Cube) (one two : Closed) (cs ds : List Cube) (ss ts : List (List Step)) → cubes path one ++ cs ≡ cubes path two ++ ds → fragments one ++ ss ≡ fragments two ++ ts
    → AreOne one two cs ds ss ts
one_tree path (leaf f) (leaf g) cs ds ss ts e h = record {
  same = ap leaf (same_first f g ss ts h);
  leaves = same_tail path path cs ds e;
  steps = same_tail f g ss ts h;
}
one_tree path (leaf f) (fork y c d) cs ds ss ts e h = absurd (leaf_fork path y c d cs ds e)
one_tree path (fork x a b) (leaf g) cs ds ss ts e h = absurd (leaf_fork path x a b ds cs (sym e))
one_tree path (fork x a b) (fork y c d) cs ds ss ts e h =
    let p = first_fork path x a b cs in
    let q = first_fork path y c d ds in
    let same_literal : x ≡ y = same_next path x y p.0 q.0 (same_first (path ++ x ∷ p.0) (path ++ y ∷ q.0) p.1 q.1 (sym p.2 ∙ e ∙ q.2)) in
    let left : Literal → Closed → List Cube = λ z t. cubes (path ++ z ∷ []) t in
    let right : Literal → Closed → List Cube = λ z t. cubes (path ++ negation z ∷ []) t in
    let e' : left x a ++ (right x b ++ cs) ≡ left x c ++ (right x d ++ ds) =
    sym (append_assoc (left x a) (right x b) cs) ∙ e ∙ ap (λ (z : Literal). (left z c ++ right z d) ++ ds) (sym same_literal) ∙ append_assoc (left x c) (right x d) ds in
    let h' : fragments a ++ (fragments b ++ ss) ≡ fragments c ++ (fragments d ++ ts) = sym (append_assoc (fragments a) (fragments b) ss) ∙ h ∙ append_assoc (fragments c) (fragments d) ts in
    let first = one_tree (path ++ x ∷ []) a c (right x b ++ cs) (right x d ++ ds) (fragments b ++ ss) (fragments d ++ ts) e' h' in
    let second = one_tree (path ++ negation x ∷ []) b d cs ds ss ts first.leaves first.steps in
    record {
      same = ap (λ (z : Literal). fork z a b) same_literal ∙ ap (λ (t : Closed). fork y t b) first.same ∙ ap (λ (t : Closed). fork y c t) second.same;
      leaves = second.leaves;
      steps = second.steps;
    }

same_spelled : (texts : List (List ℕ)) (xs ys : List (List Step)) → AreSpelled texts xs → AreSpelled texts ys → xs ≡ ys
same_spelled [] [] [] h g = refl
same_spelled [] [] (y ∷ ys) h g = absurd g
same_spelled [] (x ∷ xs) ys h g = absurd h
same_spelled (text ∷ texts) [] ys h g = absurd h
same_spelled (text ∷ texts) (x ∷ xs) [] h g = absurd g
same_spelled (text ∷ texts) (x ∷ xs) (y ∷ ys) h g =
    ap (λ (s : List Step). s ∷ xs) (spelled_once 199999999 (omega arith) text x y h.0 g.0) ∙ ap (λ (ss : List (List Step)). y ∷ ss) (same_spelled texts xs ys h.1 g.1)

pub joined_once : (F : Cnf) (preamble : List Step) (leaves : List Cube) (texts : List (List ℕ)) (s t : List ℕ) → Joined F preamble leaves texts s → Joined F preamble leaves texts t → s ≡ t
joined_once F preamble leaves texts s t a b =
    let same = one_tree [] a.tree b.tree [] [] [] []
    (append-nil (cubes [] a.tree) ∙ a.leaves_are ∙ sym (b.leaves_are) ∙ sym (append-nil (cubes [] b.tree)))
    (append-nil (fragments a.tree) ∙ same_spelled texts (fragments a.tree) (fragments b.tree) a.spelled b.spelled ∙ sym (append-nil (fragments b.tree))) in
    a.is ∙ ap (joined_text F preamble) same.same ∙ sym b.is

-- ---- some tree
-- a tree for the leaves below a path, and what is left of the texts
record IsBuilt (B : Cnf) (path : Cube) (leaves later : List Cube) (texts : List (List ℕ)) : Type 0 where
  pub tree : Closed
  pub free : AreFree path tree
  pub leaves_are : cubes path tree ≡ leaves
  pub left : List (List ℕ)
  pub close : AllClose B later left
  pub spelled : (more : List (List Step)) → AreSpelled left more → AreSpelled texts (fragments tree ++ more)

built : (B : Cnf) → B.vars ≤ 199999999 → {path : Cube} {leaves : List Cube} → Leaves path leaves → (later : List Cube) (texts : List (List ℕ)) → AllClose B (leaves ++ later) texts → IsBuilt B path leaves later texts
built B low icnf.leaf later [] close = absurd close
built B low icnf.leaf later (text ∷ texts) close =
    let most : max 2000000 B.vars ≤ 199999999 = omega arith in
    record { tree = leaf close.0.0; free = tt; leaves_are = refl; left = texts; close = close.1; spelled = λ more h. (spells_more (log_top B) 199999999 most text close.0.0 close.0.1, h) }
built B low (icnf.fork {path = path} {left = a} {right = b} x free first second) later texts close =
    let one = built B low first (b ++ later) texts (subst (λ (cs : List Cube). AllClose B cs texts) (append_assoc a b later) close) in
    let two = built B low second later one.left one.close in
    record {
      tree = fork x one.tree two.tree;
      free = (free, one.free, two.free);
      leaves_are = ap (λ (cs : List Cube). cs ++ cubes (path ++ negation x ∷ []) two.tree) one.leaves_are ∙ ap (λ (cs : List Cube). a ++ cs) two.leaves_are;
      left = two.left;
      close = two.close;
      spelled = λ more h. subst (λ (fs : List (List Step)). AreSpelled texts fs) (sym (append_assoc (fragments one.tree) (fragments two.tree) more)) (one.spelled (fragments two.tree ++ more) (two.spelled more h));
    }

none_left : (B : Cnf) (texts : List (List ℕ)) → AllClose B [] texts → AreSpelled texts []
none_left B [] h = tt
none_left B (text ∷ texts) h = h

pub joined_some : (F B : Cnf) (preamble : List Step) (leaves : List Cube) (texts : List (List ℕ)) → B.vars ≤ 199999999 → Leaves [] leaves → AllClose B leaves texts → (text : List ℕ) × Joined F preamble leaves texts text
joined_some F B preamble leaves texts low tree close =
    let b = built B low tree [] texts (subst (λ (cs : List Cube). AllClose B cs texts) (sym (append-nil leaves)) close) in (
      joined_text F preamble b.tree,
      record {
        tree = b.tree;
        free = b.free;
        leaves_are = b.leaves_are;
        spelled = subst (λ (fs : List (List Step)). AreSpelled texts fs) (append-nil (fragments b.tree)) (b.spelled [] (none_left B b.left b.close));
        is = refl;
      },
    )
