use Rattle.std.proofs.Common.{List, ℕ, subst, ◌∙◌}
use Rattle.commands.specs.Receipts.{TellsClosed}
use Rattle.receipts.specs.Contents.{contents_of}
use Rattle.commands.proofs.receipt.receipt_and_report.Goals as goal

pub returns-clause-tells : goal.returns-clause-tells
returns-clause-tells c = λ log h. (
  contents_of c.args.receipt.now,
  h,
  c.in_ok-text.ensures.text,
  subst (λ (xs : List ℕ). TellsClosed c.args.split.now.formula c.args.split.now.tree xs c.in_ok-report.report) (c.deref.ensures.value ∙ c.in_ok-text.ensures.text) c.in_ok-report.ensures.tells,
)
