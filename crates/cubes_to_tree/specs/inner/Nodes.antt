-- The tree in memory whose leaves are cubes.
use Rattle.std.specs.Prelude.{◌≡◌, ℕ, ◌+◌, ◌<◌, ◌≤◌, Bool, true, false, List, [], ◌∷◌, ◌++◌, length, map, Result, Ok, Err}
use Rattle.icnf.specs.Parser.{no_memory}
use Rattle.std.specs.List.{list_all}
use Rattle.std.specs.List.Sorted.{IsPermutation}
use Rattle.dimacs.specs.logic.Literal.{Literal, Pos, Neg, IsWithin, var_of}
use Rattle.dimacs.specs.text.Rows.{Fails}
use Rattle.icnf.specs.declared.fault.IcnfFault.{IcnfFault}
use Rattle.icnf.specs.Leaves.{Cube, IsFree}
use Rattle.cubes_to_tree.specs.Completion.{CompletedLeaf}
use Rattle.cubes_to_tree.specs.Divergence.{diverge}
use Rattle.cubes_to_tree.specs.inner.Cubes.{IsRest}
use Rattle.cubes_to_tree.specs.declared.node.Node.{Node, Empty, Given, Fork'}

-- the cubes that were inserted below a node, without the path to the node
abbrev pub given_below : Node → List Cube
given_below Empty = []
given_below Given = [] ∷ []
given_below (Fork' v p left q right) = map (λ c. Pos v ∷ c) (given_below left) ++ map (λ c. Neg v ∷ c) (given_below right)

-- path, node: the leaves below the node to which the path leads, from left to right
abbrev pub leaves_below : Cube → Node → List CompletedLeaf
leaves_below path Empty = record { cube = path; added = true } ∷ []
leaves_below path Given = record { cube = path; added = false } ∷ []
leaves_below path (Fork' v p left q right) = leaves_below (path ++ Pos v ∷ []) left ++ leaves_below (path ++ Neg v ∷ []) right

-- how many leaves a node has below it
abbrev pub leaf_count : Node → ℕ
leaf_count Empty = 1
leaf_count Given = 1
leaf_count (Fork' v p left q right) = leaf_count left + leaf_count right

-- length of the path to the node, node: no leaf has more than 64 literals
abbrev pub IsShort : ℕ → Node → Type 0
IsShort depth Empty = depth ≤ 64
IsShort depth Given = depth ≤ 64
IsShort depth (Fork' v p left q right) = IsShort (depth + 1) left × IsShort (depth + 1) right

-- greatest variable, path, node: the node may stand after the path. Its variables are at most the greatest, none comes twice, no leaf has
-- more than 64 literals, and a cube was inserted below each fork
abbrev pub IsBelow : ℕ → Cube → Node → Type 0
IsBelow greatest path Empty = length path ≤ 64
IsBelow greatest path Given = length path ≤ 64
IsBelow greatest path (Fork' v p left q right) =
    IsWithin greatest (Pos v) × IsFree path v × (0 < length (given_below (Fork' v p left q right)))
    × IsBelow greatest (path ++ Pos v ∷ []) left × IsBelow greatest (path ++ Neg v ∷ []) right

-- variable, left and right branch: the cubes that were inserted below a fork on the variable with these branches
abbrev pub fork_given : ℕ → Node → Node → List Cube
fork_given v left right = map (λ c. Pos v ∷ c) (given_below left) ++ map (λ c. Neg v ∷ c) (given_below right)

-- greatest variable, path, variable, left and right branch: a fork on the variable with these branches may stand after the path
abbrev pub IsFork : ℕ → Cube → ℕ → Node → Node → Type 0
IsFork greatest path v left right =
    IsWithin greatest (Pos v) × IsFree path v × (0 < length (fork_given v left right))
    × IsBelow greatest (path ++ Pos v ∷ []) left × IsBelow greatest (path ++ Neg v ∷ []) right

-- variable, left and right branch, node: the node has the cubes of a fork on the variable with these branches, and may stand where such a
-- fork may
pub record IsForkOf (v : ℕ) (left right node : Node) : Type 0 where
  pub given : given_below node ≡ fork_given v left right
  pub has : (greatest : ℕ) (path : Cube) → IsBelow greatest path node → IsFork greatest path v left right
  pub makes : (greatest : ℕ) (path : Cube) → IsFork greatest path v left right → IsBelow greatest path node

-- no cube was inserted
abbrev pub is_empty_tree : Node → Bool
is_empty_tree Empty = true
is_empty_tree Given = false
is_empty_tree (Fork' v p left q right) = false

-- literal, subtree, node: the node may stand where a fork may that has the subtree in the branch of the literal, and an empty leaf in the
-- other branch
abbrev pub MakesFork : Literal → Node → Node → Type 0
MakesFork x below node = (greatest : ℕ) (path : Cube) → IsWithin greatest x → IsFree path (var_of x) → length path < 64 → 0 < length (given_below below)
    → IsBelow greatest (path ++ x ∷ []) below → IsBelow greatest path node

-- cube, nodes before and after: the cube was inserted below the node, and it diverges from each cube that was there
pub record HasPut (c : Cube) (old new : Node) : Type 0 where
  pub given : IsPermutation (given_below new) (c ∷ given_below old)
  pub diverge : list_all (diverge c) (given_below old) ≡ true
  pub below : (greatest : ℕ) (path : Cube) → IsBelow greatest path old → IsRest greatest path c → IsBelow greatest path new

-- cube, node before, the bool answered, node after: the cube was inserted (true); or it was not, as it does not diverge from some cube
-- below the node (false)
abbrev pub PutOutcome : Cube → Node → Bool → Node → Type 0
PutOutcome c old true new = HasPut c old new
PutOutcome c old false new = (greatest : ℕ) (path : Cube) → IsBelow greatest path old → list_all (diverge c) (given_below old) ≡ false

-- greatest variable, cubes, root: the tree has these cubes, in some order
pub record IsTreeOf (greatest : ℕ) (cubes : List Cube) (root : Node) : Type 0 where
  pub below : IsBelow greatest [] root
  pub same : IsPermutation (given_below root) cubes

-- greatest variable, root after the call, the answer, expected cubes: the tree has the expected cubes; or the fault is the expected one, or
-- memory was refused
abbrev pub ReadLine : ℕ → Node → Result (Unit {0}) IcnfFault → Result (List Cube) IcnfFault → Type 0
ReadLine greatest new (Ok _) expected = (cubes : List Cube) × (expected ≡ Ok cubes) × IsTreeOf greatest cubes new
ReadLine greatest new (Err fault) expected = Fails no_memory fault expected
