use Rattle.std.specs.Borrow.{Bor}
use Rattle.std.proofs.Common.{ℕ, List, Option, map, subst}
use Rattle.std.proofs.lemmas.Result.{IfOk-weaker}
use Rattle.commands.specs.FormulaTree.{Begins, OfQuietTree}
use Rattle.commands.specs.Names.{OfNames}
use Rattle.commands.specs.Cover.{TellsCover}
use Rattle.commands.specs.Known.{HoldsOf}
use Rattle.commands.proofs.CoverLemmas.{of_quiet_refused, of_quiet_tree}
use Rattle.commands.proofs.cover.cover_files.Goals as goal
use Rattle.dimacs.specs.logic.Cnf.{Cnf}
use Rattle.dimacs.specs.logic.Limits.{Limits, written}
use Rattle.icnf.specs.Leaves.{Cube}
use Rattle.reports.specs.declared.report.Report.{Report}

pub returns-in-With-clause-covers : goal.returns-in-With-clause-covers
returns-in-With-clause-covers g c =
    let files = c.args.files.now in
    let holds : List ℕ → Option (List ℕ) = g.D.Disk.holds c.args.disk.now in
    let s = c.in-With.split in
    let Told : Report → Cnf → List Cube → Type 0 = λ r F tree. OfNames holds (map (λ (n : Bor (List ℕ)). n.now) c.args.names.now) (λ all. TellsCover holds F tree files.quiet all r) in
    let begins = subst (λ (L : Limits). HoldsOf (holds files.input.now) (λ text. HoldsOf (holds files.cubes.now) (λ lines. Begins L text lines c.in_ok-begun.begun))) c.written.ensures c.in_ok-begun.ensures.begins in
    IfOk-weaker c.cover_tree.result (λ r. Told r s.formula s.tree)
    (λ r. HoldsOf (holds files.input.now) (λ text. HoldsOf (holds files.cubes.now) (λ lines. OfQuietTree written files.quiet text lines (Told r) r)))
    (λ r h. of_quiet_tree written files.quiet (Told r) r (holds files.input.now) (holds files.cubes.now) c.in_ok-begun.begun s c.in-With.is h begins) c.cover_tree.ensures.covers

pub returns-in-Refused-clause-covers : goal.returns-in-Refused-clause-covers
returns-in-Refused-clause-covers g c =
    let files = c.args.files.now in
    let holds : List ℕ → Option (List ℕ) = g.D.Disk.holds c.args.disk.now in
    let r = c.hushed.result in
    let Told : Cnf → List Cube → Type 0 = λ F tree. OfNames holds (map (λ (n : Bor (List ℕ)). n.now) c.args.names.now) (λ all. TellsCover holds F tree files.quiet all r) in
    let begins = subst (λ (L : Limits). HoldsOf (holds files.input.now) (λ text. HoldsOf (holds files.cubes.now) (λ lines. Begins L text lines c.in_ok-begun.begun))) c.written.ensures c.in_ok-begun.ensures.begins in
    of_quiet_refused written files.quiet Told c.in-Refused.report r (holds files.input.now) (holds files.cubes.now) c.in_ok-begun.begun c.in-Refused.is c.hushed.ensures begins
