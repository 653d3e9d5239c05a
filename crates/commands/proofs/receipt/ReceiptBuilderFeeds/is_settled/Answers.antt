use Rattle.std.proofs.Common.{◌∙◌, sym}
use Rattle.commands.proofs.ReceiptLemmas.{reads_rest}
use Rattle.commands.proofs.receipt.ReceiptBuilderFeeds.is_settled.Goals as goal

pub returns : goal.returns
returns c = λ settled rest F cubes bytes h. reads_rest F cubes bytes rest c.args.self.now (sym c.is_settled.ensures ∙ settled) h
