use Rattle.std.proofs.Common.{◌++◌, sym, subst}
use Rattle.receipts.specs.LogReceipt.{HasLogFault}
use Rattle.receipts.proofs.LogReadLemmas.{piece_met, reads_more}
use Rattle.receipts.proofs.receipt_builder.ReceiptBuilder.read.Goals as goal

pub returns-in-Err-clause-met : goal.returns-in-Err-clause-met
returns-in-Err-clause-met c = λ F bytes h.
    subst (HasLogFault F (bytes ++ c.args.piece.now)) (sym c.of_piece.ensures) (piece_met F bytes c.args.piece.now c.args.self.now c.feed.new.taker c.in-Err.fault h c.in-Err.ensures.taken)

pub returns-clause-reads : goal.returns-clause-reads
returns-clause-reads c = λ F bytes h.
    reads_more F bytes c.args.piece.now c.args.self.now _ h c.in-Ok.ensures.taken.1 (c.update.ensures bytes h.hashed) c.saturating_add-self.ensures
