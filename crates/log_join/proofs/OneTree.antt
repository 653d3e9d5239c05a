-- The leaves determine the tree, and with the lemmas that close them the steps of the forks.
use Rattle.std.proofs.Common.{◌≡◌, ℕ, List, [], ◌∷◌, ◌++◌, length, Option, Some, refl, sym, ◌∙◌, ap, arith, append_assoc, length-append}
use Rattle.std.proofs.lemmas.List.{append-nil}
use Rattle.dimacs.specs.logic.Cnf.{Cnf}
use Rattle.dimacs.specs.logic.Literal.{Literal, Clause, negation}
use Rattle.icnf.specs.Leaves.{Cube}
use Rattle.lrat_text.specs.declared.step.Step.{Step}
use Rattle.log_join.specs.ClosedLeaves.{Numbered, Leaf}
use Rattle.log_join.specs.JoinedLogs.{Handed, Ended, leaf, fork, ends, forks, JoinState, joined_so_far, IsJoinOf}

-- ---- one tree
first_leaf : (path : Cube) (tree : Ended) → (rest : Cube) × (o : Option Numbered) × (others : List Leaf) × (ends path tree ≡ record { cube = path ++ rest; closing = o } ∷ others)
first_leaf path (leaf id C) =
    let o : Option Numbered = Some (record { id = id; clause = C }) in
    ([], o, [], ap (λ (q : Cube). record { cube = q; closing = o } ∷ []) (sym (append-nil path)))
first_leaf path (fork x left right) =
    let f = first_leaf (path ++ x ∷ []) left in
    let more : List Leaf = ends (path ++ negation x ∷ []) right in
    (x ∷ f.0, f.1, f.2 ++ more, ap (λ (ks : List Leaf). ks ++ more) f.3 ∙ ap (λ (q : Cube). record { cube = q; closing = f.1 } ∷ f.2 ++ more) (append_assoc path (x ∷ []) f.0))

same_tail : {X : Type 0} (x y : X) (xs ys : List X) → ◌≡◌ {A = List X} (x ∷ xs) (y ∷ ys) → xs ≡ ys
same_tail x y xs ys e = cc

same_first : {X : Type 0} (x y : X) (xs ys : List X) → ◌≡◌ {A = List X} (x ∷ xs) (y ∷ ys) → x ≡ y
same_first x y xs ys e = cc

not_longer : (path rest : Cube) (x : Literal) → path ≡ path ++ x ∷ rest → ⊥
not_longer path rest x e = let a = ap length e in let b = length-append path (x ∷ rest) in omega arith

same_next : (path : Cube) (x y : Literal) (xs ys : Cube) → path ++ x ∷ xs ≡ path ++ y ∷ ys → x ≡ y
same_next [] x y xs ys e = same_first x y xs ys e
same_next (l ∷ path) x y xs ys e = same_next path x y xs ys (same_tail l l (path ++ x ∷ xs) (path ++ y ∷ ys) e)

first_fork : (path : Cube) (x : Literal) (left right : Ended) (later : List Leaf)
    → (rest : Cube) × (o : Option Numbered) × (others : List Leaf) × (ends path (fork x left right) ++ later ≡ record { cube = path ++ x ∷ rest; closing = o } ∷ others)
first_fork path x left right later =
    let f = first_leaf (path ++ x ∷ []) left in
    let more : List Leaf = ends (path ++ negation x ∷ []) right in
    (f.0, f.1, (f.2 ++ more) ++ later, ap (λ (ks : List Leaf). (ks ++ more) ++ later) f.3 ∙ ap (λ (q : Cube). record { cube = q; closing = f.1 } ∷ ((f.2 ++ more) ++ later)) (append_assoc path (x ∷ []) f.0))

leaf_fork : (path : Cube) (k : Leaf) (x : Literal) (left right : Ended) (later others : List Leaf) → k.cube ≡ path → k ∷ later ≡ ends path (fork x left right) ++ others → ⊥
leaf_fork path k x left right later others c e =
    let f = first_fork path x left right others in
    not_longer path f.0 x (sym c ∙ ap (λ (z : Leaf). z.cube) (same_first k (record { cube = path ++ x ∷ f.0; closing = f.1 }) later f.2 (e ∙ f.3)))

record AreOne (one two : Ended) (ks ls : List Leaf) : Type 0 where
  pub same : one ≡ two
  pub leaves : ks ≡ ls

abbrev ended_leaf : Cube → ℕ → Clause → Leaf
ended_leaf path id C = record { cube = path; closing = Some (record { id = id; clause = C }) }

same_some : (x y : Numbered) → ◌≡◌ {A = Option Numbered} (Some x) (Some y) → x ≡ y
same_some x y e = cc

one_tree : (path : Cube) (one two : Ended) (ks ls : List Leaf) → ends path one ++ ks ≡ ends path two ++ ls → AreOne one two ks ls
one_tree path (leaf i C) (leaf j D) ks ls e =
    let s : ended_leaf path i C ≡ ended_leaf path j D = same_first (ended_leaf path i C) (ended_leaf path j D) ks ls e in
    let n : ◌≡◌ {A = Numbered} (record { id = i; clause = C }) (record { id = j; clause = D }) = same_some (record { id = i; clause = C }) (record { id = j; clause = D }) (ap (λ (z : Leaf). z.closing) s) in
    record { same = ap (λ (z : Numbered). leaf z.id z.clause) n; leaves = same_tail (ended_leaf path i C) (ended_leaf path j D) ks ls e }
one_tree path (leaf i C) (fork y c d) ks ls e = absurd (leaf_fork path (ended_leaf path i C) y c d ks ls refl e)
one_tree path (fork x a b) (leaf j D) ks ls e = absurd (leaf_fork path (ended_leaf path j D) x a b ls ks refl (sym e))
one_tree path (fork x a b) (fork y c d) ks ls e =
    let p = first_fork path x a b ks in
    let q = first_fork path y c d ls in
    let same_literal : x ≡ y = same_next path x y p.0 q.0 (ap (λ (z : Leaf). z.cube) (same_first (record { cube = path ++ x ∷ p.0; closing = p.1 }) (record { cube = path ++ y ∷ q.0; closing = q.1 }) p.2 q.2 (sym p.3 ∙ e ∙ q.3))) in
    let left : Ended → List Leaf = λ t. ends (path ++ x ∷ []) t in
    let right : Ended → List Leaf = λ t. ends (path ++ negation x ∷ []) t in
    let e1 : ends path (fork x a b) ++ ks ≡ ends path (fork x c d) ++ ls = e ∙ ap (λ (z : Literal). ends path (fork z c d) ++ ls) (sym same_literal) in
    let e2 : left a ++ (right b ++ ks) ≡ left c ++ (right d ++ ls) = sym (append_assoc (left a) (right b) ks) ∙ e1 ∙ append_assoc (left c) (right d) ls in
    let first = one_tree (path ++ x ∷ []) a c (right b ++ ks) (right d ++ ls) e2 in
    let second = one_tree (path ++ negation x ∷ []) b d ks ls first.leaves in
    record {
      same = ap (λ (z : Literal). fork z a b) same_literal ∙ ap (λ (t : Ended). fork y t b) first.same ∙ ap (λ (t : Ended). fork y c t) second.same;
      leaves = second.leaves;
    }

-- ---- all together
pub gathered_once : (F : Cnf) (cubes : List Cube) (logs : List Handed) (s t : List Step) → IsJoinOf F cubes logs s → IsJoinOf F cubes logs t → s ≡ t
gathered_once F cubes logs s t a b =
    let g : JoinState = joined_so_far F cubes logs in
    let same = one_tree [] a.tree b.tree [] [] (append-nil (ends [] a.tree) ∙ a.leaves_are ∙ sym b.leaves_are ∙ sym (append-nil (ends [] b.tree))) in
    a.is ∙ ap (λ (tree : Ended). g.steps ++ (forks [] g.top tree).steps) same.same ∙ sym b.is
