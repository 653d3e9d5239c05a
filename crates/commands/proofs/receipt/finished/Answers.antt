use Rattle.std.proofs.Common.{◌≡◌, ◌∙◌, List, ℕ, Err, ap}
use Rattle.std.proofs.lemmas.Result.{IfOk-weaker}
use Rattle.commands.specs.declared.receipt.Received.{Received}
use Rattle.commands.specs.inner.Receipts.{ComesTo}
use Rattle.receipts.specs.LogReceipt.{IsReceiptOf}
use Rattle.receipts.specs.Contents.{contents_of}
use Rattle.receipts.specs.declared.fault.BuildFault.TheVariants.{Log, ClosesNothing}
use Rattle.commands.proofs.ReceiptLemmas.{refused_is}
use Rattle.commands.proofs.receipt.finished.Goals as goal

pub returns-in-Ok-clause-comes : goal.returns-in-Ok-clause-comes
returns-in-Ok-clause-comes c = λ log h.
    let s = c.args.split.now in
    IfOk-weaker c.receipt_and_report.result (λ (x : Received). (bytes : List ℕ) → IsReceiptOf s.formula s.tree bytes (contents_of c.in-Ok.receipt) → ComesTo s.formula s.tree bytes x) (ComesTo s.formula s.tree log)
    (λ x tells. tells log (c.in-Ok.ensures.receipt s.formula s.tree log h)) c.receipt_and_report.ensures.tells

pub returns-in_ok-report-in-Err-clause-comes : goal.returns-in_ok-report-in-Err-clause-comes
returns-in_ok-report-in-Err-clause-comes c = λ log h.
    let s = c.args.split.now in
    refused_is s.formula s.tree log c.in-Err.fault c.in_ok-report-in-Err.report
    (λ f e. c.in-Err.ensures.fault f (ap Err e) s.formula s.tree log h)
    (λ e. c.in-Err.ensures.none (ap Err e) s.formula s.tree log h)
    c.in_ok-report-in-Err.ensures.says
