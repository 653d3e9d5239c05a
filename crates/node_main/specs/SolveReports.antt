-- The report of `solve`, `serve` or `work` for an input: of the formula that it spells, or that it is refused.
use Rattle.std.specs.Prelude.{◌≡◌, ℕ, ◌⊎◌, List, [], Option, Err, None, if◌then◌else◌}
use Rattle.dimacs.specs.logic.Cnf.{Cnf}
use Rattle.dimacs.specs.logic.Limits.{Limits}
use Rattle.dimacs.specs.text.Parser.{parse_within}
use Rattle.dimacs.specs.text.Grammar.{SpellsWithin}
use Rattle.dimacs.specs.declared.fault.DimacsFault.{DimacsFault}
use Rattle.node_main.specs.Decisions.{Decides}
use Rattle.reports.specs.Faults.{input_fault_text, cubes_fault_text, other_formula_text}
use Rattle.node_main.specs.FormulaSplit.{Splits}
use Rattle.command_line.specs.declared.options.Options.{Options}
use Rattle.reports.specs.declared.report.Report.{Report}
use Rattle.node_main.specs.declared.formula_split.Split.{Split}
use Rattle.node_main.specs.declared.formula_split.Split.TheVariants.{By, Faulty, OtherFormula}

-- status 1: the report prints this line, which says why something is refused, or nothing if `quiet` is set
pub record IsRefused (line : List ℕ) (options : Options) (r : Report) : Type 0 where
  pub status : r.status ≡ 1
  pub text : r.stdout.items ≡ (if options.quiet then [] else line)
  pub proof : r.proof ≡ None

-- `IsFaulty L input options report`: the input spells no formula within L, and the report has its fault
abbrev pub IsFaulty : Limits → List ℕ → Options → Report → Type 0
IsFaulty L input options r = (f : DimacsFault) × (parse_within L input ≡ Err f) × IsRefused (input_fault_text f) options r

-- `Answers F options report split`: the report of a formula that is split, or of its cubes if they are refused. It does not say which
-- leaves were used, since links may lie.
abbrev pub Answers : Cnf → Options → Report → Split → Type 0
Answers F options r (By leaves) = Decides F options r
Answers F options r (Faulty fault) = IsRefused (cubes_fault_text fault) options r
Answers F options r OtherFormula = IsRefused other_formula_text options r

-- `Solves L input cubes options report`: the report of a coordinator for an input within L and the cubes that are handed in with it, if any
abbrev pub Solves : Limits → List ℕ → Option (List ℕ) → Options → Report → Type 0
Solves L input cubes options r =
    ((F : Cnf) × SpellsWithin L input F × (split : Split) × Splits L F cubes options.depth options.defs split × Answers F options r split)
    ⊎ IsFaulty L input options r

-- `Works L input options report`: the report of a worker, which splits nothing, for an input within L
abbrev pub Works : Limits → List ℕ → Options → Report → Type 0
Works L input options r = ((F : Cnf) × SpellsWithin L input F × Decides F options r) ⊎ IsFaulty L input options r
