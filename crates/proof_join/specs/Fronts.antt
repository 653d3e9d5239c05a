-- The joined text of the first leaves of a tree. `finish` promises that the result is the joined text, so nobody has to read this file
-- to believe that.
use Rattle.std.specs.Prelude.{◌≡◌, ℕ, zero, suc, ◌+◌, nat_eq, List, [], ◌∷◌, ◌++◌, length, map, reverse, take, slice_index_or, if◌then◌else◌}
use Rattle.dimacs.specs.logic.Cnf.{Cnf}
use Rattle.dimacs.specs.logic.Literal.{Pos, Clause, negation}
use Rattle.icnf.specs.Leaves.{Cube}
use Rattle.lrat_text.specs.Runs.{text_of}
use Rattle.lrat_text.specs.declared.step.Step.{Step}
use Rattle.cube_split.specs.Definitions.{base_with}
use Rattle.cube_split.specs.declared.pair.Pair.{Pair}
use Rattle.proof_join.specs.Definitions.{preamble_steps}
use Rattle.proof_join.specs.JoinedProof.{Part, leaf_part}
use Rattle.proof_join.specs.Steps.{own_part, steps_each}
use Rattle.proof_join.specs.declared.finished.Finished.{Finished}

-- a finished subtree that waits for its right sibling: the length of the path to it, its clause, and the clause's number
pub record Branch : Type 0 where
  pub depth : ℕ
  pub id : ℕ
  pub clause : Clause

-- the value of a finished subtree of the code
abbrev pub branch_of : Finished → Branch
branch_of b = record { depth = b.depth; id = b.subtree.id; clause = b.subtree.clause.items }

-- the finished subtrees on a stack of the code, the top first
unfoldable pub branches : List Finished → List Branch
branches items = reverse (map branch_of items)

-- the standing of a join: the text so far, the number of its last addition, and the stack of finished subtrees, the top first
pub record Standing : Type 0 where
  pub text : List ℕ
  pub top : ℕ
  pub finished : List Branch

-- the value of a joiner: the number of the base's clauses, the number of leaves that were appended, and the standing
pub record Front : Type 0 where
  pub base : ℕ
  pub count : ℕ
  pub standing : Standing

-- `waiting depth text top i C finished`: the standing after a finished subtree at this depth, with
-- clause C under the number i, is pushed on the stack `finished`
abbrev pub waiting : ℕ → List ℕ → ℕ → ℕ → Clause → List Branch → Standing
waiting depth text top i C finished = record { text = text; top = top; finished = record { depth = depth; id = i; clause = C } ∷ finished }

-- `settled q depth text top i C finished`: the standing after a subtree at this depth of the cube q
-- is finished, with clause C under the number i: if its left sibling is on top of the stack
-- `finished`, their fork is finished too, and so on upward; else the subtree is pushed
abbrev pub settled : Cube → ℕ → List ℕ → ℕ → ℕ → Clause → List Branch → Standing
settled q zero text top i C finished = waiting zero text top i C finished
settled q (suc d) text top i C [] = waiting (suc d) text top i C []
settled q (suc d) text top i C (left ∷ finished) =
    let own : Part = own_part (take d q) (negation (slice_index_or q d (Pos 0))) top left.id left.clause i C in
    if nat_eq left.depth (suc d) then settled q d (text ++ text_of top own.steps) own.top own.id own.clause finished
    else waiting (suc d) text top i C (left ∷ finished)

-- the joiner's value after a leaf is appended, with cube q and these steps, and each fork that it finishes
unfoldable pub appended : Front → Cube → List Step → Front
appended f q steps =
    let s : Standing = f.standing in
    let p : Part = leaf_part f.base s.top steps in
    record {
      base = f.base;
      count = f.count + 1;
      standing = settled q (length q) (s.text ++ text_of s.top p.steps) p.top p.id p.clause s.finished;
    }

-- the joiner's value after leaves are appended, one after the other
abbrev pub appended_all : Front → List Cube → List (List Step) → Front
appended_all f [] all = f
appended_all f (q ∷ leaves) [] = f
appended_all f (q ∷ leaves) (steps ∷ all) = appended_all (appended f q steps) leaves all

-- the joiner's value before a leaf is appended: it has the preamble's lines
abbrev pub preamble_front : Cnf → List Pair → Front
preamble_front F pairs =
    let b : ℕ = length (base_with F pairs).clauses in
    record { base = b; count = 0; standing = record { text = text_of (length F.clauses) (preamble_steps F pairs); top = b; finished = [] } }

-- f is the joiner's value after the fragments of these leaves, the first ones of a tree, were appended
pub record IsFrontOf (F : Cnf) (pairs : List Pair) (leaves : List Cube) (texts : List (List ℕ)) (f : Front) : Type 0 where
  pub base : f.base ≡ length (base_with F pairs).clauses
  pub count : f.count ≡ length leaves
  pub each : length texts ≡ length leaves
  pub is : f ≡ appended_all (preamble_front F pairs) leaves (steps_each texts)
