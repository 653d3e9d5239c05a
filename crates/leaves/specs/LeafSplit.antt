-- Cutting a leaf of a splitting tree in two, on a variable that is named or that the split rule chooses.
use Rattle.std.specs.Prelude.{◌≡◌, ℕ, zero, suc, ◌<◌, ◌≤◌, ◌++◌, ◌⊎◌, List, Option, Some, None, length, codes, slice_get}
use Rattle.cube_split.specs.Choice.{Choice}
use Rattle.dimacs.specs.logic.Base.{pure_literals}
use Rattle.dimacs.specs.logic.Cnf.{Cnf, greatest_in}
use Rattle.icnf.specs.Leaves.{Cube, IsFree, branched}
use Rattle.icnf.specs.Grammar.{spelling}
use Rattle.leaves.specs.Leaf.{Prints, no_leaf_text}
use Rattle.reports.specs.declared.report.Report.{Report}

-- the cube may be cut on the variable `v`: `v` is from 1 to the greatest variable of the clauses, and no literal of the cube has it
pub record MayBeNamed (F : Cnf) (q : Cube) (v : ℕ) : Type 0 where
  pub some : 0 < v
  pub among : v ≤ greatest_in F.clauses
  pub free : IsFree q v

-- formula, cube, the variable that is named, `v`: the cube is cut on `v`. This is the variable that is named, if it may be; if none is
-- named, the one that the split rule chooses
abbrev pub SplitsOn : Cnf → Cube → Option ℕ → ℕ → Type 0
SplitsOn F q None v = Choice F (pure_literals F ++ q) (Some v)
SplitsOn F q (Some w) v = (v ≡ w) × MayBeNamed F q w

-- formula, cubes of the tree, cube, the variable that is named: the tree has 65,536 leaves, or the cube has 64 literals, or there is no
-- variable on which the cube is cut
abbrev pub CannotSplit : Cnf → List Cube → Cube → Option ℕ → Type 0
CannotSplit F leaves q named = (65536 ≤ length leaves) ⊎ (64 ≤ length q) ⊎ ((v : ℕ) → ¬ (SplitsOn F q named v))

-- what is printed if a leaf cannot be cut
abbrev pub cannot_split_text : List ℕ
cannot_split_text = codes "c cannot split\n"

-- what is printed of the leaf at the index `place`, from 0, with the cube `q`: the tree with two branches instead of the leaf; or that the
-- leaf cannot be cut
pub data PrintsBranches (F : Cnf) (leaves : List Cube) (place : ℕ) (q : Cube) (named : Option ℕ) (r : Report) : Type 0 where
  splits : (v : ℕ) → SplitsOn F q named v → Prints 0 (spelling F.clauses (branched place v leaves)) r → PrintsBranches F leaves place q named r
  stops : CannotSplit F leaves q named → Prints 1 cannot_split_text r → PrintsBranches F leaves place q named r

-- what `cubes --split` prints of the leaf at the index `place`, from 0, with this cube; or if there is no such leaf
abbrev pub PrintsSplitOf : Cnf → List Cube → ℕ → Option Cube → Option ℕ → Report → Type 0
PrintsSplitOf F leaves place None named r = Prints 1 no_leaf_text r
PrintsSplitOf F leaves place (Some q) named r = PrintsBranches F leaves place q named r

-- what `cubes --split` prints of the leaf of this number, from 1
abbrev pub PrintsSplit : Cnf → List Cube → ℕ → Option ℕ → Report → Type 0
PrintsSplit F leaves zero named r = Prints 1 no_leaf_text r
PrintsSplit F leaves (suc place) named r = PrintsSplitOf F leaves place (slice_get leaves place) named r
