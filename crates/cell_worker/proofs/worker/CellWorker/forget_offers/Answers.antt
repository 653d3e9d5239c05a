use Rattle.std.proofs.Common.{refl}
use Rattle.cell_worker.proofs.HandedLemmas.{written_same}
use Rattle.cell_worker.proofs.worker.CellWorker.forget_offers.Goals as goal

pub returns-clause-stands : goal.returns-clause-stands
returns-clause-stands g c = λ F names steps text h.
    let s = c.args.self.now in
    written_same F names steps text s (record s { offers = record s.offers { text = c.clear.new.self } }) text refl refl refl refl refl h
