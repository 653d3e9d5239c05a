use Rattle.std.proofs.Common.{◌≡◌, ℕ, List}
use Rattle.commands.specs.Receipts.{TellsReceipt}
use Rattle.commands.specs.inner.Receipts.{ComesTo}
use Rattle.commands.proofs.OfLemmas.{of_ok}
use Rattle.commands.proofs.receipt.receipt_tree.Goals as goal

pub returns-clause-tells : goal.returns-clause-tells
returns-clause-tells g c =
    let s = c.args.split.now in
    let Comes : List ℕ → Type 0 = λ log. ComesTo s.formula s.tree log c.in_ok-received.received in
    of_ok Comes (λ log r. TellsReceipt (g.D.Drafts.kept c.args.disk.now c.write_receipt.new.disk c.args.files.now.receipt.now) (c.write_receipt.new.disk ≡ c.args.disk.now) s.formula s.tree log r) _ c.write_receipt.result
    c.in_ok-received.ensures.comes (λ log h. c.write_receipt.ensures.tells s.formula s.tree log h)
