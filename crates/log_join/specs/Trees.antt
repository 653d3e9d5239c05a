-- A splitting tree in memory and its index, as values of the definitions.
use Rattle.std.specs.Prelude.{◌≡◌, ℕ, ◌+◌, ◌*◌, ◌/◌, ◌%◌, ◌<◌, ◌≤◌, Option, None, List, [], ◌∷◌, ◌++◌, slice_index_or, Contains}
use Rattle.std.specs.Option.{option_map}
use Rattle.std.specs.List.{list_all}
use Rattle.dimacs.specs.logic.Literal.{Literal, index_of, negation, var_of}
use Rattle.icnf.specs.Leaves.{Cube, IsFree}
use Rattle.log_join.specs.ClosedLeaves.{Numbered, Leaf, is_closed}
use Rattle.log_join.specs.Bits.{Has}
use Rattle.log_join.specs.declared.leaf_index.Index.{Index}
use Rattle.log_join.specs.declared.lemma.Lemma.{Lemma}
use Rattle.log_join.specs.declared.tree.Node.{Node, Leaf as Single, Fork'}

-- the lemma with its number, from a lemma in memory
abbrev pub lemma_of : Lemma → Numbered
lemma_of l = record { id = l.id; clause = l.clause.items }

-- the leaf with this cube and this closing lemma, from those in memory
abbrev pub leaf_in : Cube → Option Lemma → Leaf
leaf_in cube closing = record { cube = cube; closing = option_map lemma_of closing }

-- the leaves of a subtree in memory, from left to right
abbrev pub leaves_in : Node → List Leaf
leaves_in (Single cube closing) = leaf_in cube.items closing ∷ []
leaves_in (Fork' branch middle closed p left q right) = leaves_in left ++ leaves_in right

-- the subtree is below this path: no fork's variable is on the path to the fork, and a fork is flagged as closed if and only if all its
-- leaves are closed
abbrev pub IsSubtree : Cube → Node → Type 0
IsSubtree path (Single cube closing) = cube.items ≡ path
IsSubtree path (Fork' branch middle closed p left q right) =
    IsFree path (var_of branch)
    × (closed ≡ list_all is_closed (leaves_in left ++ leaves_in right))
    × IsSubtree (path ++ branch ∷ []) left
    × IsSubtree (path ++ negation branch ∷ []) right

-- the row of a literal in the index; 0 if there is none
abbrev pub row_of : Index → Literal → ℕ
row_of index l = slice_index_or index.slots.items (index_of l) 0

-- the block of a literal that has the leaf index p; 0 if there is none
abbrev pub block_of : Index → Literal → ℕ → ℕ
block_of index l p = slice_index_or index.blocks.items (row_of index l * 64 + p / 1024) 0

-- the leaf index p is in the set of the literal
pub record HasPlace (index : Index) (l : Literal) (p : ℕ) : Type 0 where
  pub row : 0 < row_of index l
  pub block : 0 < block_of index l p
  pub bit : Has index.words.items (block_of index l p * 1024 + p % 1024)

-- the leaves of a subtree have indices in from..to, rising from left to right
abbrev pub ArePlaced : ℕ → ℕ → Node → Type 0
ArePlaced from to (Single cube closing) = from < to
ArePlaced from to (Fork' branch middle closed p left q right) = ArePlaced from middle left × ArePlaced middle to right

-- the leaf index is in the set of each literal of the leaf's cube that a line may have over some base
abbrev pub AreMet : Index → ℕ → Cube → Type 0
AreMet index at cube = (l : Literal) → Contains cube l → var_of l ≤ 199999999 → HasPlace index l at

-- the index of each leaf of a subtree is in the set of each literal of the leaf's cube that lines may have; the first leaf has the index
-- `from`
abbrev pub AreCovered : Index → ℕ → Node → Type 0
AreCovered index from (Single cube closing) = AreMet index from cube.items
AreCovered index from (Fork' branch middle closed p left q right) = AreCovered index from left × AreCovered index middle right

-- the indices of a subtree's open leaves are in the set; the first leaf has the index `from`
abbrev pub AreOpen : List ℕ → ℕ → Node → Type 0
AreOpen unclosed from (Single cube closing) = closing ≡ None → Has unclosed from
AreOpen unclosed from (Fork' branch middle closed p left q right) = AreOpen unclosed from left × AreOpen unclosed middle right

-- the index and the set of open leaves are those of the tree: all indices are below 65,536, and no leaf or literal is missing in them
pub record IsIndexed (index : Index) (unclosed : List ℕ) (node : Node) : Type 0 where
  pub placed : ArePlaced 0 65536 node
  pub covered : AreCovered index 0 node
  pub left : AreOpen unclosed 0 node
