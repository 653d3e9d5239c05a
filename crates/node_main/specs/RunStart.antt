-- The start of a run: a formula that is split, or a report that refuses.
use Rattle.std.specs.Prelude.{◌≡◌, ℕ, List, Option}
use Rattle.dimacs.specs.logic.Limits.{Limits}
use Rattle.dimacs.specs.text.Grammar.{SpellsWithin}
use Rattle.node_main.specs.SolveReports.{Solves}
use Rattle.node_main.specs.FormulaSplit.{Splits, StaysInside, StaysNarrow}
use Rattle.command_line.specs.declared.options.Options.{Options}
use Rattle.node_main.specs.declared.formula_split.Split.TheVariants.{By}
use Rattle.node_main.specs.declared.start.Start.{Start}
use Rattle.node_main.specs.declared.start.Start.TheVariants.{With, Refused}

-- `Starts L input cubes options start`: the start has the formula that the input spells within L and the tree by which the cubes, or else
-- the split rule, split it; or it has the report that refuses the input or the cubes
abbrev pub Starts : Limits → List ℕ → Option (List ℕ) → Options → Start → Type 0
Starts L input cubes options (With opened leaves) = SpellsWithin L input opened.formula × Splits L opened.formula cubes options.depth options.defs (By leaves)
Starts L input cubes options (Refused r) = Solves L input cubes options r

-- of a start, whatever the input was: as many definitions are wanted as the options say, and each variable of the tree is one of the base,
-- and of a frame if the formula has more than 1,000,000; a refusal has status 1
abbrev pub IsStart : Options → Start → Type 0
IsStart options (With opened leaves) = (opened.definitions.wanted ≡ options.defs) × StaysInside opened.formula options.defs (By leaves) × StaysNarrow opened.formula (By leaves)
IsStart options (Refused r) = r.status ≡ 1
