-- What a call changes of a tree and its index.
use Rattle.std.specs.Prelude.{◌≡◌, ℕ, ◌<◌, ◌≤◌, ◌⊎◌, Bool, Option, Some, None, List, [], ◌++◌, length, map, drop, Contains}
use Rattle.std.specs.List.{list_any}
use Rattle.dimacs.specs.logic.Literal.{Literal, Clause, negation}
use Rattle.icnf.specs.Leaves.{Cube, Leaves}
use Rattle.log_join.specs.ClosedLeaves.{Numbered, Leaf, can_close, settled}
use Rattle.log_join.specs.JoinedLogs.{Ended, leaf, fork}
use Rattle.log_join.specs.Trees.{leaves_in, IsSubtree, ArePlaced, AreCovered, AreOpen, HasPlace}
use Rattle.log_join.specs.Bits.{Has}
use Rattle.log_join.specs.declared.leaf_index.Index.{Index}
use Rattle.log_join.specs.declared.lemma.Lemma.{Lemma}
use Rattle.log_join.specs.declared.lemma.Candidate.{Candidate}
use Rattle.log_join.specs.declared.places.Places.{Places}
use Rattle.log_join.specs.declared.tree.Node.{Node, Leaf as Single, Fork'}

-- no set of a literal has lost a leaf index
abbrev pub Keeps : Index → Index → Type 0
Keeps old new = (l : Literal) (p : ℕ) → HasPlace old l p → HasPlace new l p

-- the range of all leaf indices
abbrev pub whole : Places
whole = record { from = 0; to = 65536 }

-- the range of the leaf indices of a fork's left branch
abbrev pub left_of : ℕ → Places → Places
left_of middle at = record { from = at.from; to = middle }

-- the range of the leaf indices of a fork's right branch
abbrev pub right_of : ℕ → Places → Places
right_of middle at = record { from = middle; to = at.to }

-- the lemma with its number, from a borrowed lemma
abbrev pub candidate_of : Candidate → Numbered
candidate_of l = record { id = l.id; clause = l.clause.now }

-- the subtree after a lemma has closed the open leaves that it can close; `some` tells whether there was one
pub record HasSettled (l : Numbered) (path : Cube) (old new : Node) (some : Bool) : Type 0 where
  pub tree : IsSubtree path new
  pub leaves : leaves_in new ≡ settled l (leaves_in old)
  pub told : some ≡ list_any (can_close l) (leaves_in old)
  pub covers : (index : Index) (from : ℕ) → AreCovered index from old → AreCovered index from new

-- the leaves of a subtree have indices below 65,536; the first leaf has the index `from`
abbrev pub AreLow : ℕ → Node → Type 0
AreLow from (Single cube closing) = from < 65536
AreLow from (Fork' branch middle closed p left q right) = AreLow from left × AreLow middle right

-- the leaf index p is in the set of the negation of each literal of the clause
abbrev pub AllHavePlace : Index → Clause → ℕ → Type 0
AllHavePlace index C p = (l : Literal) → Contains C l → HasPlace index (negation l) p

-- `found` has each index of an open leaf that is in the sets of all negations of the clause's literals
abbrev pub IsFound : Index → List ℕ → Clause → List ℕ → Type 0
IsFound index unclosed C found = (p : ℕ) → p < 65536 → Has unclosed p → AllHavePlace index C p → Has found p

-- `Settles l at old new some`: the lemma l has closed the open leaves that it can close of a
-- subtree, which is then `new`; `at` is the range of its leaf indices, `some` tells whether one was
-- closed. Only leaves in the set `found` of l were tested.
abbrev pub Settles : Candidate → Places → Node → Node → Bool → Type 0
Settles l at old new some =
    (path : Cube) (index : Index) (unclosed : List ℕ) → IsSubtree path old → ArePlaced at.from at.to old → at.to ≤ 65536 → AreCovered index at.from old
    → AreOpen unclosed at.from old → IsFound index unclosed l.clause.now l.found.now → HasSettled (candidate_of l) path old new some

-- the set a of the indices of open leaves has become b: indices outside the subtree stay, and each leaf of the subtree that is open is in b
pub record Clears (at : Places) (a b : List ℕ) (old new : Node) : Type 0 where
  pub outside : (p : ℕ) → p < at.from ⊎ at.to ≤ p → Has a p → Has b p
  pub placed : ArePlaced at.from at.to new
  pub left : AreOpen a at.from old → AreOpen b at.from new

-- the cubes from index `next` on begin with those of the leaves below a path of the length `depth`
pub record IsPart (cubes : List Cube) (next depth : ℕ) : Type 0 where
  pub path : Cube
  pub here : List Cube
  pub later : List Cube
  pub long : length path ≡ depth
  pub leaves : Leaves path here
  pub are : drop next cubes ≡ here ++ later

-- the leaf with this cube, open
abbrev pub open_leaf : Cube → Leaf
open_leaf q = record { cube = q; closing = None }

-- the subtree below the path was made of these leaves, every leaf open
pub record IsMadeOf (path : Cube) (here : List Cube) (node : Node) : Type 0 where
  pub tree : IsSubtree path node
  pub leaves : leaves_in node ≡ map open_leaf here

-- the leaf of a closed tree, from the lemma that closes it
abbrev pub ended_leaf : Option Lemma → Ended
ended_leaf None = leaf 0 []
ended_leaf (Some l) = leaf l.id l.clause.items

-- the closed tree that a tree in memory stands for, if all its leaves are closed
abbrev pub ended : Node → Ended
ended (Single cube closing) = ended_leaf closing
ended (Fork' branch middle closed p left q right) = fork branch (ended left) (ended right)
