-- What a report of `solve` says of the formula that the input spells, in words that name no proof.
use Rattle.std.specs.Prelude.{◌≡◌, ℕ, Bool, List}
use Rattle.dimacs.specs.logic.Cnf.{Cnf, Sat}
use Rattle.dimacs.specs.logic.Limits.{Limits}
use Rattle.dimacs.specs.text.Grammar.{SpellsWithin}
use Rattle.lrat_check.specs.Soundness.{IsUnsatisfiable}
use Rattle.reports.specs.declared.report.Report.{Report}

-- the input spells a formula within the limits, and an assignment satisfies it
abbrev pub SpellsSatisfiable : Limits → List ℕ → Type 0
SpellsSatisfiable L input = (F : Cnf) × SpellsWithin L input F × (a : ℕ → Bool) × Sat a F

-- the input spells a formula within the limits, and no assignment satisfies it
abbrev pub SpellsUnsatisfiable : Limits → List ℕ → Type 0
SpellsUnsatisfiable L input = (F : Cnf) × SpellsWithin L input F × IsUnsatisfiable F

-- with status 10 the input spells, within the limits, a formula that an assignment satisfies, with status 20 one that none satisfies
pub record IsTrueReport (L : Limits) (input : List ℕ) (r : Report) : Type 0 where
  pub satisfiable : r.status ≡ 10 → SpellsSatisfiable L input
  pub unsatisfiable : r.status ≡ 20 → SpellsUnsatisfiable L input
