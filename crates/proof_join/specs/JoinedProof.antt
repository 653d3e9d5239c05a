-- The joined proof: one proof from the fragments that close the leaves of a splitting tree.
use Rattle.std.specs.Prelude.{◌≡◌, ℕ, ◌+◌, ◌≤◌, not, ◌||◌, List, [], ◌∷◌, ◌++◌, length, map, filter, All, if◌then◌else◌}
use Rattle.dimacs.specs.logic.ClauseMap.{ClauseMap, map_of, live_in}
use Rattle.dimacs.specs.logic.Cnf.{Cnf}
use Rattle.dimacs.specs.logic.Literal.{Literal, Clause, negation, has, var_of}
use Rattle.dimacs.specs.logic.Rat.{Rat}
use Rattle.icnf.specs.Leaves.{Cube, IsFree}
use Rattle.lrat_text.specs.Grammar.{LineSpellsWithin, IsStepWithin}
use Rattle.lrat_text.specs.Log.{Closes}
use Rattle.lrat_text.specs.Proof.{proof_top}
use Rattle.lrat_text.specs.declared.step.Step.{Step}
use Rattle.lrat_text.specs.declared.step.Step.TheVariants.{Add, Delete}
use Rattle.proof_join.specs.RenumberedSteps.{behind, renumbered, last_clause}
use Rattle.lrat_text.specs.Runs.{after_steps, top_of, text_of}

-- a splitting tree with the steps of a fragment at each leaf; the left branch of a fork is below x, the right one below -x
pub data Closed : Type 0 where
  leaf : List Step → Closed
  fork : (x : Literal) → Closed → Closed → Closed

-- the fragments of the leaves, from left to right
abbrev pub fragments : Closed → List (List Step)
fragments (leaf steps) = steps ∷ []
fragments (fork x left right) = fragments left ++ fragments right

-- the cubes of the leaves below a path, from left to right
abbrev pub cubes : Cube → Closed → List Cube
cubes path (leaf steps) = path ∷ []
cubes path (fork x left right) = cubes (path ++ x ∷ []) left ++ cubes (path ++ negation x ∷ []) right

-- a tree's property: no fork's variable is on the path to the fork
abbrev pub AreFree : Cube → Closed → Type 0
AreFree path (leaf steps) = Unit {0}
AreFree path (fork x left right) = IsFree path (var_of x) × AreFree (path ++ x ∷ []) left × AreFree (path ++ negation x ∷ []) right

-- what a subtree contributes: its steps, the number of the last addition, and the clause that the subtree proves, with its number
pub record Part : Type 0 where
  pub steps : List Step
  pub top : ℕ
  pub id : ℕ
  pub clause : Clause

-- what a leaf contributes: its fragment, whose numbers above b go on after t, and the clause of its last addition
abbrev pub leaf_part : ℕ → ℕ → List Step → Part
leaf_part b t fragment =
    let steps : List Step = map (renumbered (behind b t)) fragment in
    record { steps = steps; top = top_of t steps; id = top_of t steps; clause = last_clause [] fragment }

-- the negations of those literals of the path that are negated in one of the two clauses, in the path's order
abbrev pub resolvent : Cube → Clause → Clause → Clause
resolvent path C D = filter (λ l. has C l || has D l) (map negation path)

-- what a fork contributes if it has a line of its own: the lines of both branches, and after them the line that adds C
abbrev pub with_line : Clause → Part → Part → Part
with_line C left right = record {
  steps = left.steps ++ right.steps ++ Add (right.top + 1) C (left.id ∷ right.id ∷ []) [] ∷ [];
  top = right.top + 1;
  id = right.top + 1;
  clause = C;
}

-- what a fork contributes if it needs no line: the lines of both branches, and the clause of the chosen one
abbrev pub with_clause_of : Part → Part → Part → Part
with_clause_of chosen left right = record { steps = left.steps ++ right.steps; top = right.top; id = chosen.id; clause = chosen.clause }

-- what a fork contributes: if the left clause does not have -x, it is the fork's clause; else if the right one does not have x, that is;
-- else the fork has a line of its own, which adds the resolvent
abbrev pub fork_part : Cube → Literal → Part → Part → Part
fork_part path x left right =
    if not (has left.clause (negation x)) then with_clause_of left left right
    else if not (has right.clause x) then with_clause_of right left right
    else with_line (resolvent path left.clause right.clause) left right

-- what the subtree below a path contributes, over a base of b clauses; t is the highest number that was given before
abbrev pub part : ℕ → Cube → ℕ → Closed → Part
part b path t (leaf fragment) = leaf_part b t fragment
part b path t (fork x left right) =
    let first : Part = part b (path ++ x ∷ []) t left in
    fork_part path x first (part b (path ++ negation x ∷ []) first.top right)

-- the steps of a joined proof: the preamble's, whose numbers go on after the formula's clauses, and then those of the tree
abbrev pub joined_steps : Cnf → List Step → Closed → List Step
joined_steps F preamble tree =
    let b : ℕ = length F.clauses + length preamble in
    preamble ++ (part b [] b tree).steps

-- the text of a joined proof
abbrev pub joined_text : Cnf → List Step → Closed → List ℕ
joined_text F preamble tree = text_of (length F.clauses) (joined_steps F preamble tree)

-- each text spells the steps at its index, with variables up to 199,999,999, the most of any base
abbrev pub AreSpelled : List (List ℕ) → List (List Step) → Type 0
AreSpelled [] [] = Unit {0}
AreSpelled (text ∷ texts) (steps ∷ rest) = LineSpellsWithin 199999999 text steps × AreSpelled texts rest
AreSpelled [] (steps ∷ rest) = ⊥
AreSpelled (text ∷ texts) [] = ⊥

-- the text is the joined text of a formula F, a preamble, the cubes of a tree's leaves and a fragment for each
pub record Joined (F : Cnf) (preamble : List Step) (leaves : List Cube) (texts : List (List ℕ)) (text : List ℕ) : Type 0 where
  pub tree : Closed
  pub free : AreFree [] tree
  pub leaves_are : cubes [] tree ≡ leaves
  pub spelled : AreSpelled texts (fragments tree)
  pub is : text ≡ joined_text F preamble tree

-- additions of these literals' unit clauses, under the numbers after top
abbrev pub unit_steps : ℕ → List Literal → List Step
unit_steps top [] = []
unit_steps top (l ∷ units) = Add (top + 1) (l ∷ []) [] [] ∷ unit_steps (top + 1) units

-- each text closes the cube at its index over the base B
abbrev pub AllClose : Cnf → List Cube → List (List ℕ) → Type 0
AllClose B [] [] = Unit {0}
AllClose B (q ∷ leaves) (text ∷ texts) = Closes B q text × AllClose B leaves texts
AllClose B [] (text ∷ texts) = ⊥
AllClose B (q ∷ leaves) [] = ⊥

-- each step adds a clause under the next number, by a resolution asymmetric tautology
abbrev pub AreRatSteps : ClauseMap → ℕ → List Step → Type 0
AreRatSteps M top [] = Unit {0}
AreRatSteps M top (Add id lits hints groups ∷ steps) = (id ≡ top + 1) × Rat (live_in M) lits hints groups × AreRatSteps (after_steps M (Add id lits hints groups ∷ [])) id steps
AreRatSteps M top (Delete ids ∷ steps) = ⊥

-- a preamble's property: its steps lead from the formula F to its base B, whose variables a proof of F may have
pub record IsPreamble (F B : Cnf) (preamble : List Step) : Type 0 where
  pub rat : AreRatSteps (map_of F) (length F.clauses) preamble
  pub limits : All (IsStepWithin (proof_top F)) preamble
  pub base : map_of B ≡ after_steps (map_of F) preamble
  pub count : length B.clauses ≡ length F.clauses + length preamble
  pub vars : B.vars ≤ proof_top F
