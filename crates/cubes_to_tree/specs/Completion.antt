-- The splitting tree that completes cubes, and what is printed of it.
use Rattle.std.specs.Prelude.{◌≡◌, ℕ, ◌+◌, ◌<◌, ◌≤◌, Bool, not, List, [], ◌∷◌, ◌++◌, length, map, All, Contains, None, Result, Ok, Err, codes, decimal, if◌then◌else◌}
use Rattle.std.specs.List.{filter}
use Rattle.std.specs.List.Sorted.{IsPermutation}
use Rattle.dimacs.specs.logic.Cnf.{Cnf, FitsIn}
use Rattle.dimacs.specs.logic.Limits.{Limits}
use Rattle.dimacs.specs.logic.Literal.{Literal, Pos, Neg, negation}
use Rattle.icnf.specs.declared.fault.IcnfFault.{IcnfFault}
use Rattle.icnf.specs.Leaves.{Cube, IsFree}
use Rattle.icnf.specs.Grammar.{SpellsWithin, formula_of, spelling}
use Rattle.reports.specs.Faults.{cubes_fault_text}
use Rattle.reports.specs.declared.report.Report.{Report}

-- a leaf, and whether it was added to the cubes that were given
pub record CompletedLeaf : Type 0 where
  pub cube : Cube
  pub added : Bool

-- the cubes of the leaves
abbrev pub cubes_in : List CompletedLeaf → List Cube
cubes_in leaves = map (λ l. l.cube) leaves

-- the cubes of the leaves that were given
abbrev pub given_in : List CompletedLeaf → List Cube
given_in leaves = cubes_in (filter (λ l. not l.added) leaves)

-- the cubes of the leaves that were added
abbrev pub added_in : List CompletedLeaf → List Cube
added_in leaves = cubes_in (filter (λ l. l.added) leaves)

-- the leaves of a tree below a path, from left to right: the branch of a variable comes before that of its negation
pub data InOrder : Cube → List Cube → Type 0 where
  one : {path : Cube} → InOrder path (path ∷ [])
  fork : {path : Cube} {left right : List Cube} (v : ℕ) → IsFree path v
      → InOrder (path ++ Pos v ∷ []) left → InOrder (path ++ Neg v ∷ []) right → InOrder path (left ++ right)

-- the leaf branches off the path of the cube: it is a prefix of the cube, and the negation of the next literal
pub record IsBranchOff (leaf cube : Cube) : Type 0 where
  pub prefix : Cube
  pub x : Literal
  pub suffix : Cube
  pub leaf_is : leaf ≡ prefix ++ negation x ∷ []
  pub cube_is : cube ≡ prefix ++ x ∷ suffix

-- the tree of these leaves completes the cubes: the leaves that were given are the cubes, each once, in some order; and each leaf that
-- was added branches off the path of one of the cubes
pub record Completes (cubes : List Cube) (leaves : List CompletedLeaf) : Type 0 where
  pub tree : InOrder [] (cubes_in leaves)
  pub given : IsPermutation (given_in leaves) cubes
  pub added : All (λ q. (c : Cube) × Contains cubes c × IsBranchOff q c) (added_in leaves)

-- for each leaf whether it was added
abbrev pub flags_of : List CompletedLeaf → List Bool
flags_of leaves = map (λ l. l.added) leaves

-- the line of the added leaf of the number n, from 1
abbrev pub added_line : ℕ → List ℕ
added_line n = codes "c leaf " ++ decimal n ++ codes " added\n"

-- a line for each leaf that was added, with its number in the tree; the first leaf of the list has the number n
abbrev pub added_lines : ℕ → List Bool → List ℕ
added_lines n [] = []
added_lines n (added ∷ flags) = (if added then added_line n else []) ++ added_lines (n + 1) flags

-- what is printed of a tree: the lines of the leaves that were added, then the formula with the tree as iCNF text
abbrev pub tree_text : Cnf → List CompletedLeaf → List ℕ
tree_text F leaves = added_lines 1 (flags_of leaves) ++ spelling F.clauses (cubes_in leaves)

-- what is printed if the tree has more than 65,536 leaves
abbrev pub above_limit_text : List ℕ
above_limit_text = codes "c cubes above limit\n"

-- a report of this status, with this text and without a proof
pub record Prints (status : ℕ) (text : List ℕ) (r : Report) : Type 0 where
  pub status_is : r.status ≡ status
  pub text_is : r.stdout.items ≡ text
  pub no_proof : r.proof ≡ None

-- formula, cubes, report: a text that spells, within each limits into which the formula fits, the formula's clauses and a tree that
-- completes the cubes; or that such a tree has more than 65,536 leaves
pub data PrintsTree (F : Cnf) (cubes : List Cube) (r : Report) : Type 0 where
  tree : (leaves : List CompletedLeaf) → Completes cubes leaves → length leaves ≤ 65536
      → ((L : Limits) → FitsIn L F → SpellsWithin L (tree_text F leaves) (formula_of F.clauses) (cubes_in leaves)) → Prints 0 (tree_text F leaves) r → PrintsTree F cubes r
  above : (leaves : List CompletedLeaf) → Completes cubes leaves → 65536 < length leaves → Prints 1 above_limit_text r → PrintsTree F cubes r

-- formula, cubes of a text or its first fault, report: what is printed of the text
abbrev pub PrintsCompletion : Cnf → Result (List Cube) IcnfFault → Report → Type 0
PrintsCompletion F (Ok cubes) r = PrintsTree F cubes r
PrintsCompletion F (Err fault) r = Prints 1 (cubes_fault_text fault) r
