use Rattle.std.proofs.Common.{ℕ, List, ◌++◌, refl, ◌∙◌, ap}
use Rattle.std.proofs.lemmas.List.{append-nil}
use Rattle.cell_worker.proofs.HandedLemmas.{written_same}
use Rattle.cell_worker.proofs.worker.CellWorker.forget.Goals as goal

pub returns-clause-stands : goal.returns-clause-stands
returns-clause-stands g c = λ F names steps text h.
    let s = c.args.self.now in
    let more = text ++ s.log.items in
    written_same F names steps text s (record s { log = c.clear.new.self }) more (ap (λ (t : List ℕ). more ++ t) c.clear.ensures.items ∙ append-nil more) refl refl refl refl h
