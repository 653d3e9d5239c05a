-- How a formula is split into cubes, and which cubes are refused.
use Rattle.std.specs.Prelude.{◌≡◌, ◌≢◌, ℕ, ◌<◌, nat_le, List, [], ◌∷◌, All, Option, Some, None, Err, if◌then◌else◌}
use Rattle.cube_split.specs.ChoiceWithDefinitions.{IsTreeWith}
use Rattle.cube_split.specs.Pairs.{AreDefined, IsBaseWith}
use Rattle.cube_split.specs.declared.pair.Pair.{Pair}
use Rattle.dimacs.specs.logic.Base.{pure_literals}
use Rattle.dimacs.specs.logic.Cnf.{Cnf}
use Rattle.dimacs.specs.logic.Limits.{Limits}
use Rattle.dimacs.specs.logic.Literal.{IsWithin}
use Rattle.evidence.specs.Jobs.{IsOverBase}
use Rattle.icnf.specs.Leaves.{Cube}
use Rattle.icnf.specs.Parser.{parse_within}
use Rattle.icnf.specs.Grammar.{SpellsWithin}
use Rattle.node_main.specs.declared.formula_split.Split.{Split}
use Rattle.node_main.specs.declared.formula_split.Split.TheVariants.{By, Faulty, OtherFormula}

-- A formula of more than 1,000,000 variables is not split, since the literals of a frame have variables up to 2,000,000: the depth, and the
-- leaves, by which a formula is split.
abbrev pub depth_for : Cnf → ℕ → ℕ
depth_for F depth = if nat_le F.vars 1000000 then depth else 0

abbrev pub leaves_for : Cnf → List Cube → List Cube
leaves_for F cubes = if nat_le F.vars 1000000 then cubes else [] ∷ []

-- `SplitsByRule F depth defs split`: F is split by the split rule over `defs` definitions, to this depth
abbrev pub SplitsByRule : Cnf → ℕ → ℕ → Split → Type 0
SplitsByRule F depth defs (By leaves) =
    (pairs : List Pair) × AreDefined F defs [] pairs × IsTreeWith F (record { units = pure_literals F; pairs = pairs }) (depth_for F depth) leaves
SplitsByRule F depth defs (Faulty fault) = ⊥
SplitsByRule F depth defs OtherFormula = ⊥

-- `SplitsByText L F text split`: F is split by the cubes of an iCNF text within L, whose clauses have to be those of F: the same lists of
-- literals in the same order. Other texts are refused.
abbrev pub SplitsByText : Limits → Cnf → List ℕ → Split → Type 0
SplitsByText L F text (By leaves) = (G : Cnf) × (cubes : List Cube) × SpellsWithin L text G cubes × (G.clauses ≡ F.clauses) × (leaves ≡ leaves_for F cubes)
SplitsByText L F text (Faulty fault) = parse_within L text ≡ Err fault
SplitsByText L F text OtherFormula = (G : Cnf) × (leaves : List Cube) × SpellsWithin L text G leaves × (G.clauses ≢ F.clauses)

-- `Splits L F cubes depth defs split`: F is split by the cubes that are handed in, read within L, or, without any, by the split rule
abbrev pub Splits : Limits → Cnf → Option (List ℕ) → ℕ → ℕ → Split → Type 0
Splits L F None depth defs split = SplitsByRule F depth defs split
Splits L F (Some text) depth defs split = SplitsByText L F text split

-- `StaysInside F defs split`: each variable of the cubes is one of the base of F with `defs` definitions
abbrev pub StaysInside : Cnf → ℕ → Split → Type 0
StaysInside F defs (By leaves) = (B : Cnf) → IsBaseWith F defs B → All (IsOverBase B) leaves
StaysInside F defs (Faulty fault) = Unit {0}
StaysInside F defs OtherFormula = Unit {0}

-- beyond 1,000,000 variables of the formula, each variable of the cubes is one that a frame may have
abbrev pub StaysNarrow : Cnf → Split → Type 0
StaysNarrow F (By leaves) = 1000000 < F.vars → All (All (IsWithin 2000000)) leaves
StaysNarrow F (Faulty fault) = Unit {0}
StaysNarrow F OtherFormula = Unit {0}
