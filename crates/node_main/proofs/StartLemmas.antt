-- What is reported of a formula is reported of the input that spells it.
use Rattle.std.proofs.Common.{◌≡◌, ℕ, List, Option, Result, Ok, Err, IfOk, inl, subst, sym}
use Rattle.cube_split.specs.Pairs.{OpenedFormula}
use Rattle.dimacs.specs.logic.Cnf.{Cnf}
use Rattle.dimacs.specs.logic.Limits.{AreNoMore, Limits, large}
use Rattle.dimacs.specs.text.Parser.{parse_within, GivesFormula}
use Rattle.dimacs.specs.text.Grammar.{SpellsWithin}
use Rattle.dimacs.specs.declared.fault.DimacsFault.{DimacsFault}
use Rattle.dimacs.proofs.SpellingLemmas.{found_spells_within}
use Rattle.icnf.specs.Leaves.{Cube}
use Rattle.proof_check.proofs.CheckLemmas.{spelled as input_spelled}
use Rattle.node_main.specs.Decisions.{Decides}
use Rattle.node_main.specs.SolveReports.{Solves, Works}
use Rattle.node_main.specs.FormulaSplit.{StaysInside, StaysNarrow}
use Rattle.node_main.specs.RunStart.{IsStart, Starts}
use Rattle.command_line.specs.declared.options.Options.{Options}
use Rattle.reports.specs.declared.report.Report.{Report}
use Rattle.node_main.specs.declared.formula_split.Split.{Split}
use Rattle.node_main.specs.declared.formula_split.Split.TheVariants.{By}
use Rattle.node_main.specs.declared.start.Start.{Start}
use Rattle.node_main.specs.declared.start.Start.TheVariants.{With}

-- the same, under a name that this crate's tactics can call
pub spelled : (L : Limits) (input : List ℕ) (r : Result Cnf DimacsFault) (F : Cnf) → AreNoMore L large → r ≡ Ok F → GivesFormula r (parse_within L input) → SpellsWithin L input F
spelled = input_spelled

pub started_solves : {E : Type 0} (r : Result Report E) (L : Limits) (input : List ℕ) (cubes : Option (List ℕ)) (o : Options) (s : Start) (opened : OpenedFormula) (leaves : List Cube)
    → s ≡ With opened leaves → Starts L input cubes o s → IfOk r (Decides opened.formula o) → IfOk r (Solves L input cubes o)
started_solves (Ok x) L input cubes o s opened leaves same starts is =
    let h : Starts L input cubes o (With opened leaves) = subst (Starts L input cubes o) same starts in inl (opened.formula, h.0, By leaves, h.1, is)
started_solves (Err e) L input cubes o s opened leaves same starts is = tt

pub started_inside : (o : Options) (s : Start) (opened : OpenedFormula) (leaves : List Cube) → s ≡ With opened leaves → IsStart o s → StaysInside opened.formula opened.definitions.wanted (By leaves)
started_inside o s opened leaves same is =
    let h : IsStart o (With opened leaves) = subst (IsStart o) same is in
    subst (λ (n : ℕ). StaysInside opened.formula n (By leaves)) (sym h.0) h.1

pub started_narrow : (o : Options) (s : Start) (opened : OpenedFormula) (leaves : List Cube) → s ≡ With opened leaves → IsStart o s → StaysNarrow opened.formula (By leaves)
started_narrow o s opened leaves same is = let h : IsStart o (With opened leaves) = subst (IsStart o) same is in h.2

-- a formula that is opened with as many definitions as the words ask for, and split
pub opened_starts : (o : Options) (opened : OpenedFormula) (split : Split) (leaves : List Cube)
    → split ≡ By leaves → opened.definitions.wanted ≡ o.defs → StaysInside opened.formula opened.definitions.wanted split → StaysNarrow opened.formula split
    → IsStart o (With opened leaves)
opened_starts o opened split leaves same wanted inside narrow =
    let h : StaysInside opened.formula opened.definitions.wanted (By leaves) = subst (StaysInside opened.formula opened.definitions.wanted) same inside in
    (wanted, subst (λ (n : ℕ). StaysInside opened.formula n (By leaves)) wanted h, subst (StaysNarrow opened.formula) same narrow)

pub read_works : {E : Type 0} (r : Result Report E) (L : Limits) (input : List ℕ) (o : Options) (F : Cnf) → SpellsWithin L input F → IfOk r (Decides F o) → IfOk r (Works L input o)
read_works (Ok x) L input o F spells is = inl (F, spells, is)
read_works (Err e) L input o F spells is = tt
