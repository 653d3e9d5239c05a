-- The report of a service: its parts, and the input that spells its formula.
use Rattle.std.proofs.Common.{◌≡◌, ℕ, List, Option, Some, None, Result, Ok, Err, IfOk, inl, refl, subst}
use Rattle.cube_split.specs.Pairs.{OpenedFormula}
use Rattle.dimacs.specs.logic.Limits.{Limits}
use Rattle.icnf.specs.Leaves.{Cube}
use Rattle.lrat_check.specs.Soundness.{Soundness}
use Rattle.event_loop.specs.declared.run.Run.{Run}
use Rattle.command_line.specs.declared.options.Options.{Options}
use Rattle.reports.specs.declared.report.Report.{Report}
use Rattle.node_main.specs.Decisions.{Decides}
use Rattle.node_main.specs.ServiceReports.{report_of, report_with}
use Rattle.node_main.specs.SolveReports.{Solves}
use Rattle.proof_check.specs.Truth.{IsTrueReport}
use Rattle.node_main.specs.RunStart.{Starts}
use Rattle.node_main.specs.declared.commands.service.Service.{Service}
use Rattle.node_main.specs.declared.formula_split.Split.TheVariants.{By}
use Rattle.node_main.specs.declared.start.Start.{Start}
use Rattle.node_main.specs.declared.start.Start.TheVariants.{With}
use Rattle.node_main.proofs.TruthLemmas.{solves_true}

pub same_text : (r : Report) (run : Option Run) → (report_with r run).stdout ≡ r.stdout
same_text r None = refl
same_text r (Some run) = refl

pub same_status : (r : Report) (run : Option Run) → (report_with r run).status ≡ r.status
same_status r None = refl
same_status r (Some run) = refl

pub serving_solves : {E : Type 0} (r : Result Service E) (L : Limits) (input : List ℕ) (cubes : Option (List ℕ)) (o : Options) (s : Start) (opened : OpenedFormula) (leaves : List Cube)
    → s ≡ With opened leaves → Starts L input cubes o s → IfOk r (λ x. Decides opened.formula o (report_of x)) → IfOk r (λ x. Solves L input cubes o (report_of x))
serving_solves (Ok x) L input cubes o s opened leaves same starts is =
    let h : Starts L input cubes o (With opened leaves) = subst (Starts L input cubes o) same starts in inl (opened.formula, h.0, By leaves, h.1, is)
serving_solves (Err e) L input cubes o s opened leaves same starts is = tt

pub serving_true : {E : Type 0} → Soundness → (L : Limits) (input : List ℕ) (cubes : Option (List ℕ)) (o : Options) (r : Result Service E)
    → IfOk r (λ x. Solves L input cubes o (report_of x)) → IfOk r (λ x. IsTrueReport L input (report_of x))
serving_true sound L input cubes o (Ok x) is = solves_true {E = ℕ} sound L input cubes o (Ok (report_of x)) is
serving_true sound L input cubes o (Err e) is = tt
