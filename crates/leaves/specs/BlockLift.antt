-- The lift of a LIDRUP text for a block of leaves: the bytes that it has read and written, and its report.
use Rattle.std.specs.Prelude.{◌≡◌, ℕ, ◌+◌, ◌-◌, nat_le, Bool, true, false, MatchBool, List, [], ◌∷◌, ◌++◌, drop, length, take, Option, Some, None, Result, ◌&&◌, if◌then◌else◌}
use Rattle.std.specs.Bool.{OnTrue}
use Rattle.dimacs.specs.logic.Cnf.{Cnf}
use Rattle.icnf.specs.Leaves.{Cube}
use Rattle.leaves.specs.Leaf.{Prints}
use Rattle.leaves.specs.Notes.{missing_line}
use Rattle.leaves.specs.LeafSearch.{closed_line}
use Rattle.leaves.specs.declared.block_lift.BlockLift.{BlockLift}
use Rattle.lidrup.specs.CubeLog.{ClosesCube, EndsAs, HasLogged}
use Rattle.lidrup.specs.Lidrup.{ClosesQuery}
use Rattle.lidrup.specs.View.{state_of}
use Rattle.lrat_check.specs.declared.line_checker.CheckFault.{CheckFault}
use Rattle.reports.specs.declared.report.Report.{Report}

-- the cubes of the leaves at the indices from `first` to before `end`, from 0
abbrev pub part_of : List Cube → ℕ → ℕ → List Cube
part_of leaves first end = drop first (take end leaves)

-- the cubes of the leaves of the numbers from `first` to `last`, from 1; None if the tree has not all these leaves, or `last` is below
-- `first`
abbrev pub block_of : List Cube → ℕ → ℕ → Option (List Cube)
block_of leaves first last =
    if nat_le 1 first && nat_le first last && nat_le last (length leaves) then Some (part_of leaves (first - 1) last) else None

-- formula, index of the first leaf in the tree (from 0), cubes of the leaves, `bytes` read, `handed` bytes of the log that are already
-- handed out, the lift: the lift has read the bytes of a text for these leaves; the whole log so far is `handed` and then the bytes that
-- the lift still has
pub record HasTakenBlock (F : Cnf) (place : ℕ) (cubes : List Cube) (bytes handed : List ℕ) (l : BlockLift) : Type 0 where
  pub from : l.block.first ≡ place
  pub holds : part_of l.block.tree l.block.first l.block.end ≡ cubes
  pub stands : HasLogged F bytes handed l.log

-- formula, index of the first leaf (from 0), cubes, the answer: if there are such leaves, the answer is a lift that has read no byte of a
-- text for them; else it is None
abbrev pub BeginsBlockOf : Cnf → ℕ → Option (List Cube) → Option BlockLift → Type 0
BeginsBlockOf F place None l = l ≡ None
BeginsBlockOf F place (Some cubes) None = ⊥
BeginsBlockOf F place (Some cubes) (Some l) = HasTakenBlock F place cubes [] [] l

-- formula, cubes of all leaves, `first` and `last` number (from 1), the answer: the answer is a lift that has read no byte of a text for
-- the leaves `first` to `last`; or None, if these are no leaves of the tree
abbrev pub BeginsBlock : Cnf → List Cube → ℕ → ℕ → Option BlockLift → Type 0
BeginsBlock F leaves first last l = BeginsBlockOf F (first - 1) (block_of leaves first last) l

-- a lift that has read some bytes has, after the call, read these bytes and then the piece; the bytes handed out are unchanged
abbrev pub TakesBlockPiece : List ℕ → BlockLift → BlockLift → Type 0
TakesBlockPiece piece old new = (F : Cnf) (place : ℕ) (cubes : List Cube) (bytes handed : List ℕ) → HasTakenBlock F place cubes bytes handed old → HasTakenBlock F place cubes (bytes ++ piece) handed new

-- formula, bytes of the text, bytes of the log, the lift, the answer: the log is the one that the text becomes if the answer is Ok; else
-- the answer is the text's first fault
abbrev pub EndsBlock : Cnf → List ℕ → List ℕ → BlockLift → Result (Unit {0}) CheckFault → Type 0
EndsBlock F bytes log l r = EndsAs F bytes log (state_of l.log.lines.known) r

-- the line of the leaf at this index, from 0: closed if the bool is true, and else missing
abbrev pub leaf_line : ℕ → Bool → List ℕ
leaf_line place true = closed_line (place + 1)
leaf_line place false = missing_line place

-- ---- the report
-- the lines of the leaves from this index on, from 0: a leaf is closed if its bool is true, and else missing
abbrev pub told_text : ℕ → List Bool → List ℕ
told_text place [] = []
told_text place (b ∷ bs) = leaf_line place b ++ told_text (place + 1) bs

-- every bool is true: all leaves are closed
abbrev pub are_closed : List Bool → Bool
are_closed [] = true
are_closed (b ∷ bs) = b && are_closed bs

-- formula, text, log, index of the leaf's query in the text (from 0), cube of the leaf, the bool reported: it is true exactly if this query
-- closes the leaf; if it is true, the log has a lemma that closes the leaf
abbrev pub TellsLeaf : (F : Cnf) (text log : List ℕ) (query : ℕ) (q : Cube) (b : Bool) → Type 0
TellsLeaf F text log query q b = MatchBool b (ClosesQuery F text query q) (¬ (ClosesQuery F text query q)) × OnTrue b (ClosesCube F q log)

-- formula, text, log, index of the first leaf's query in the text (from 0), cubes, the bools reported: each leaf's bool says whether its
-- query closes it (`TellsLeaf`); the queries of the leaves follow each other in the text
abbrev pub AreTold : (F : Cnf) (text log : List ℕ) (query : ℕ) (cubes : List Cube) (told : List Bool) → Type 0
AreTold F text log query [] [] = Unit {0}
AreTold F text log query [] (b ∷ bs) = ⊥
AreTold F text log query (q ∷ qs) [] = ⊥
AreTold F text log query (q ∷ qs) (b ∷ bs) = TellsLeaf F text log query q b × AreTold F text log (query + 1) qs bs

-- the report of the leaves with these cubes, the first of which has the index `place` in the tree, from 0, and the first query of the text.
-- The line of each leaf has its number in the tree, from 1; the status is 20 if all leaves are closed, and else 0
pub record PrintsBlock (F : Cnf) (place : ℕ) (cubes : List Cube) (text log : List ℕ) (r : Report) : Type 0 where
  pub told : List Bool
  pub are : AreTold F text log 0 cubes told
  pub prints : Prints (if are_closed told then 20 else 0) (told_text place told) r
