-- The proof lines that define variables, each equivalent to the conjunction of two literals.
use Rattle.std.specs.Prelude.{ℕ, ◌+◌, List, [], ◌∷◌, ◌++◌, length}
use Rattle.dimacs.specs.logic.Base.{pure_literals}
use Rattle.dimacs.specs.logic.Cnf.{Cnf}
use Rattle.dimacs.specs.logic.Literal.{Literal}
use Rattle.icnf.specs.Leaves.{Cube}
use Rattle.lrat_text.specs.declared.step.Step.{Step}
use Rattle.lrat_text.specs.declared.step.Step.TheVariants.{Add}
use Rattle.cube_split.specs.Definitions.{both_clause, part_clause}
use Rattle.cube_split.specs.declared.pair.Pair.{Pair}
use Rattle.proof_join.specs.JoinedProof.{Joined, unit_steps}

-- the lines that define the variable d by the pair p, under the numbers after top; the first is the only candidate of the others
abbrev pub definition_steps : ℕ → ℕ → Pair → List Step
definition_steps top d p =
    Add (top + 1) (both_clause d p) [] []
    ∷ Add (top + 2) (part_clause d p.first) [] ((top + 1, []) ∷ [])
    ∷ Add (top + 3) (part_clause d p.second) [] ((top + 1, []) ∷ [])
    ∷ []

-- the lines that define the variables d, d + 1, .., one for each pair, under the numbers after top
abbrev pub all_steps : ℕ → ℕ → List Pair → List Step
all_steps top d [] = []
all_steps top d (p ∷ pairs) = definition_steps top d p ++ all_steps (top + 3) (d + 1) pairs

-- the preamble of a formula with definitions: the units of the pure literals, followed by the lines of the definitions
abbrev pub preamble_steps : Cnf → List Pair → List Step
preamble_steps F pairs =
    let m : ℕ = length F.clauses in
    let units : List Literal = pure_literals F in
    unit_steps m units ++ all_steps (m + length units) (F.vars + 1) pairs

-- the joined text of a formula whose preamble defines a variable for each pair, over the leaves of a tree and their fragments
abbrev pub JoinedOver : Cnf → List Pair → List Cube → List (List ℕ) → List ℕ → Type 0
JoinedOver F pairs leaves texts text = Joined F (preamble_steps F pairs) leaves texts text
