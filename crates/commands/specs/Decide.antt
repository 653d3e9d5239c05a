-- What `decide` tells of the file of an input.
use Rattle.std.specs.Prelude.{◌⊎◌, ℕ, List}
use Rattle.commands.specs.FormulaTree.{IsHushed, OfFormula, RefusesInput}
use Rattle.commands.specs.declared.decide.Deciding.{Deciding}
use Rattle.dimacs.specs.logic.Limits.{Limits}
use Rattle.formula_search.specs.Decisions.{DecidesTo}
use Rattle.reports.specs.declared.report.Report.{Report}

-- the report tells the first fault of the input, read within the limits, and without its line if `quiet`; or what comes of its formula, of
-- whose proof `has` tells where it is
abbrev pub DecidesInput : Limits → Deciding → (List ℕ → Type 0) → List ℕ → Report → Type 0
DecidesInput L d has input r =
    ((told : Report) × RefusesInput L input told × IsHushed d.quiet told r) ⊎ OfFormula L input (λ F. DecidesTo F d.asked has r)
