-- The minimiser's table of answers.
use Rattle.std.specs.Prelude.{ℕ, ◌<◌, length}
use Rattle.conflict_analysis.specs.declared.minimiser.Minimiser.{Minimiser}

-- a minimiser's property: its table has room for the variables from 1 to `vars`
abbrev pub HasRoom : ℕ → Minimiser → Type 0
HasRoom vars m = vars < length m.answers.items
