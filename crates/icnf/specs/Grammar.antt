-- The iCNF grammar, by cases on lines and tokens, and the text that is written for a formula and a tree.
use Rattle.std.specs.Prelude.{◌≡◌, ℕ, List, [], ◌∷◌, ◌++◌, map, Some, codes}
use Rattle.std.specs.List.{flat_map}
use Rattle.dimacs.specs.logic.Cnf.{Cnf, FitsIn, IsFormula, AreWithin, greatest_in}
use Rattle.dimacs.specs.logic.Limits.{Limits, written}
use Rattle.dimacs.specs.logic.Literal.{Clause}
use Rattle.dimacs.specs.text.Grammar.{ended, clause_line}
use Rattle.dimacs.specs.text.Rows.{AreRows}
use Rattle.dimacs.specs.text.Words.{lines}
use Rattle.icnf.specs.Leaves.{Cube, IsTree}
use Rattle.icnf.specs.Parser.{Token, Mark, Number, token}

-- a cube as tokens: the word a, then its numbers, ended by 0
abbrev pub cube_tokens : Cube → List Token
cube_tokens cube = Mark ∷ map Number (ended cube)

-- the tokens are those of the clauses of f, and then those of the cubes
abbrev pub AreTokens : List (List ℕ) → Cnf → List Cube → Type 0
AreTokens tokens f cubes = map token tokens ≡ map Some (map Number (flat_map ended f.clauses) ++ flat_map cube_tokens cubes)

-- the tokens are the two of the header
abbrev pub IsHeader : List (List ℕ) → Type 0
IsHeader (p ∷ inccnf ∷ []) = (p ≡ codes "p") × (inccnf ≡ codes "inccnf")
IsHeader _ = ⊥

-- f is a formula whose number of variables is the greatest variable of its clauses, and the cubes are a tree over these variables
pub record IsIcnf (f : Cnf) (cubes : List Cube) : Type 0 where
  pub formula : IsFormula f
  pub vars : f.vars ≡ greatest_in f.clauses
  pub tree : IsTree cubes
  pub within : AreWithin f.vars cubes

-- the text spells the formula f, which fits into the limits L, and the tree: the first line with a token is the header, and the clauses and
-- then the cubes follow
abbrev pub SpellsWithin : Limits → List ℕ → Cnf → List Cube → Type 0
SpellsWithin L text f cubes = IsIcnf f cubes × AreRows IsHeader (λ tokens. AreTokens tokens f cubes) (lines text) × FitsIn L f

-- the text spells the formula f, which fits into the written limits, and the tree
abbrev pub Spells : List ℕ → Cnf → List Cube → Type 0
Spells text f cubes = SpellsWithin written text f cubes

-- the line that is written for a cube, with its LF
abbrev pub cube_line : Cube → List ℕ
cube_line cube = codes "a " ++ clause_line cube

-- the text that is written for clauses and a tree
abbrev pub spelling : List Clause → List Cube → List ℕ
spelling clauses cubes = codes "p inccnf\n" ++ (flat_map clause_line clauses ++ flat_map cube_line cubes)

-- the formula of these clauses, whose number of variables is their greatest variable
abbrev pub formula_of : List Clause → Cnf
formula_of clauses = record { vars = greatest_in clauses; clauses = clauses }
