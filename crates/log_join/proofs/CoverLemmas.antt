-- A lemma closes no leaf whose place the index did not find.
use Rattle.std.proofs.Common.{◌≡◌, ℕ, ◌<◌, ◌≤◌, Bool, true, false, ◌&&◌, ◌||◌, Some, None, List, [], refl, sym, ◌∙◌, ap, subst, arith}
use Rattle.std.specs.List.{All, list_any}
use Rattle.std.proofs.lemmas.List.Elements.{All-contains}
use Rattle.std.proofs.lemmas.List.Folds.{list_any-append}
use Rattle.dimacs.specs.logic.Literal.{IsWithin, negation}
use Rattle.dimacs.proofs.LiteralLemmas.{var_of-negation}
use Rattle.icnf.specs.Leaves.{Cube}
use Rattle.log_join.specs.Bits.{Has}
use Rattle.log_join.specs.ClosedLeaves.{closes, Numbered, can_close}
use Rattle.log_join.specs.declared.leaf_index.Index.{Index}
use Rattle.log_join.specs.declared.lemma.Candidate.{Candidate}
use Rattle.log_join.specs.declared.tree.Node.{Node, Leaf as Single, Fork'}
use Rattle.log_join.specs.Trees.{leaves_in, IsSubtree, ArePlaced, AreCovered, AreOpen, IsIndexed}
use Rattle.log_join.specs.inner.Trees.{AllHavePlace, IsFound, candidate_of, HasSettled}
use Rattle.log_join.proofs.SettleLemmas.{closes_negates}
use Rattle.log_join.proofs.TreeLemmas.{placed_inside, unchanged}

no_one : (b : Bool) → ((b && false) || false) ≡ false
no_one true = refl
no_one false = refl

-- a lemma for which no open place has all its negations closes no leaf of a subtree
pub elsewhere_closes_none : (index : Index) (unclosed : List ℕ) (l : Numbered) → All (IsWithin 199999999) l.clause → (from to : ℕ) (node : Node) → ArePlaced from to node
    → AreCovered index from node → AreOpen unclosed from node → ((p : ℕ) → from ≤ p → p < to → Has unclosed p → AllHavePlace index l.clause p → ⊥) → list_any (can_close l) (leaves_in node) ≡ false
elsewhere_closes_none index unclosed l small from to (Single cube (Some x)) placed covered left nowhere = refl
elsewhere_closes_none index unclosed l small from to (Single cube None) placed covered left nowhere = cases (closes cube.items l.clause) refl
  where
    cannot : ¬ (closes cube.items l.clause ≡ true)
    cannot c = nowhere from (omega arith) placed (left refl) (λ x inside.
        covered (negation x) (closes_negates cube.items l.clause c x inside)
        (subst (λ (v : ℕ). v ≤ 199999999) (sym (var_of-negation x)) (All-contains (IsWithin 199999999) l.clause x small inside).1))

    cases : (b : Bool) → closes cube.items l.clause ≡ b → ((true && closes cube.items l.clause) || false) ≡ false
    cases true e = absurd (cannot e)
    cases false e = ap (λ c. (true && c) || false) e
elsewhere_closes_none index unclosed l small from to (Fork' branch middle closed p left q right) (a, b) (c, d) (e, f) nowhere =
    let low : from < middle = placed_inside from middle left a in
    let high : middle < to = placed_inside middle to right b in
    list_any-append (can_close l) (leaves_in left) (leaves_in right)
    ∙ ap (λ b. b || list_any (can_close l) (leaves_in right)) (elsewhere_closes_none index unclosed l small from middle left a c e (λ p up down. nowhere p up (omega arith)))
    ∙ elsewhere_closes_none index unclosed l small middle to right b d f (λ p up down. nowhere p (omega arith) down)

-- and leaves it as it is
pub elsewhere_unchanged : (l : Candidate) (path : Cube) (index : Index) (unclosed : List ℕ) (from to : ℕ) (node : Node) → All (IsWithin 199999999) l.clause.now → ((p : ℕ) → from ≤ p → p < to → ¬ (Has l.found.now p))
    → IsSubtree path node → ArePlaced from to node → to ≤ 65536 → AreCovered index from node → AreOpen unclosed from node → IsFound index unclosed l.clause.now l.found.now
    → HasSettled (candidate_of l) path node node false
elsewhere_unchanged l path index unclosed from to node small none tree placed limit covered left found =
    unchanged (candidate_of l) path node tree
    (elsewhere_closes_none index unclosed (candidate_of l) small from to node placed covered left (λ p up down here stand. none p up down (found p (omega arith) here stand)))

pub nothing_found : (index : Index) (unclosed : List ℕ) (l : Numbered) (node : Node) → All (IsWithin 199999999) l.clause → ((p : ℕ) → p < 65536 → Has unclosed p → AllHavePlace index l.clause p → ⊥)
    → IsSubtree [] node → IsIndexed index unclosed node → HasSettled l [] node node false
nothing_found index unclosed l node small none tree i =
    unchanged l [] node tree (elsewhere_closes_none index unclosed l small 0 65536 node i.placed i.covered i.left (λ p up down. none p down))
