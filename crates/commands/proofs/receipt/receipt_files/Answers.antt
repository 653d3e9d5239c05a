use Rattle.std.proofs.Common.{◌≡◌, ℕ, List, Option, subst}
use Rattle.std.proofs.lemmas.Result.{IfOk-weaker}
use Rattle.commands.specs.FormulaTree.{Begins}
use Rattle.commands.specs.Known.{HoldsOf}
use Rattle.commands.specs.Receipts.{TellsReceipt}
use Rattle.commands.specs.Trees.{OfTree}
use Rattle.commands.proofs.ReceiptLemmas.{of_left}
use Rattle.commands.proofs.TreeLemmas.{of_refused, of_tree}
use Rattle.commands.proofs.receipt.receipt_files.Goals as goal
use Rattle.dimacs.specs.logic.Cnf.{Cnf}
use Rattle.dimacs.specs.logic.Limits.{Limits, written}
use Rattle.icnf.specs.Leaves.{Cube}
use Rattle.reports.specs.declared.report.Report.{Report}

pub returns-in-With-clause-tells : goal.returns-in-With-clause-tells
returns-in-With-clause-tells g c =
    let files = c.args.files.now in
    let old = c.args.disk.now in
    let new = c.receipt_tree.new.disk in
    let holds : List ℕ → Option (List ℕ) = g.D.Disk.holds old in
    let s = c.in-With.split in
    let Told : Report → Cnf → List Cube → Type 0 = λ r F tree. HoldsOf (holds files.log.now) (λ log. TellsReceipt (g.D.Drafts.kept old new files.receipt.now) (new ≡ old) F tree log r) in
    let begins = subst (λ (L : Limits). HoldsOf (holds files.input.now) (λ text. HoldsOf (holds files.cubes.now) (λ lines. Begins L text lines c.in_ok-begun.begun))) c.written.ensures c.in_ok-begun.ensures.begins in
    IfOk-weaker c.receipt_tree.result (λ r. Told r s.formula s.tree)
    (λ r. HoldsOf (holds files.input.now) (λ text. HoldsOf (holds files.cubes.now) (λ lines. OfTree written text lines (Told r) r)))
    (λ r h. of_tree written (Told r) r (holds files.input.now) (holds files.cubes.now) c.in_ok-begun.begun s c.in-With.is h begins) c.receipt_tree.ensures.tells

pub returns-in-With-clause-dropped : goal.returns-in-With-clause-dropped
returns-in-With-clause-dropped g c =
    let files = c.args.files.now in
    let old = c.args.disk.now in
    let new = c.receipt_tree.new.disk in
    let s = c.in-With.split in
    let known = g.D.Disk.holds old files.log.now in
    IfOk-weaker c.receipt_tree.result (λ r. HoldsOf known (λ log. TellsReceipt (g.D.Drafts.kept old new files.receipt.now) (new ≡ old) s.formula s.tree log r)) (λ r. r.status ≡ 1 → new ≡ old)
    (λ r h. of_left (g.D.Drafts.kept old new files.receipt.now) (new ≡ old) s.formula s.tree known r h) c.receipt_tree.ensures.tells

pub returns-in-Refused-clause-tells : goal.returns-in-Refused-clause-tells
returns-in-Refused-clause-tells g c =
    let files = c.args.files.now in
    let old = c.args.disk.now in
    let holds : List ℕ → Option (List ℕ) = g.D.Disk.holds old in
    let r = c.in-Refused.report in
    let Told : Cnf → List Cube → Type 0 = λ F tree. HoldsOf (holds files.log.now) (λ log. TellsReceipt (g.D.Drafts.kept old old files.receipt.now) (old ≡ old) F tree log r) in
    let begins = subst (λ (L : Limits). HoldsOf (holds files.input.now) (λ text. HoldsOf (holds files.cubes.now) (λ lines. Begins L text lines c.in_ok-begun.begun))) c.written.ensures c.in_ok-begun.ensures.begins in
    of_refused written Told r (holds files.input.now) (holds files.cubes.now) c.in_ok-begun.begun c.in-Refused.is begins
