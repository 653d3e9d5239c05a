use Rattle.std.proofs.Common.{◌+◌, refl, arith}
use Rattle.lrat_text.specs.Grammar.{IsClauseNumber}
use Rattle.cell_worker.specs.inner.SharedLines.{name_text}
use Rattle.cell_worker.proofs.SpellingLemmas.{name_open, name_spelled}
use Rattle.cell_worker.proofs.WrittenLemmas.{written_named}
use Rattle.cell_worker.proofs.worker.CellWorker.name.Goals as goal

pub returns-clause-stands : goal.returns-clause-stands
returns-clause-stands g c = λ F names steps text h.
    let s = c.args.self.now in
    let number = s.names + 1 in
    let name = c.args.name.now in
    let is : IsClauseNumber number = (omega arith, (let l = c.if-self-ge-LAST_NAME.false in omega arith)) in
    written_named F names steps text s (record s { log = c.put_name.new.out; names = number }) (name_text number name) number name c.in_ok-put_name.ensures
    (name_open number name is c.requires) (name_spelled number name is c.requires) refl refl refl refl refl h
