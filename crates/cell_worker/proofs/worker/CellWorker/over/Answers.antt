use Rattle.std.proofs.Common.{refl, ◌∙◌}
use Rattle.cell_worker.proofs.KeptLemmas.{begun, numbered_of, numbered_same}
use Rattle.cell_worker.proofs.worker.CellWorker.over.Goals as goal

pub session_over-requires-clause-numbered : goal.session_over-requires-clause-numbered
session_over-requires-clause-numbered g c = numbered_of c.args.formula.now c.args.kept c.requires.kept

pub returns-clause-stands : goal.returns-clause-stands
returns-clause-stands g c =
    let k = c.args.kept in
    let e = c.in_ok-search.ensures in
    let d = c.diversify.ensures in
    begun c.args.formula.now k c.requires.kept _ c.in_ok-log.ensures refl (d.vars ∙ e.vars) (d.last ∙ e.last) refl (d.log ∙ e.log)
    (numbered_same k.formula.clauses k.numbers.items c.in_ok-search.search c.diversify.new.self d.last d.known e.known)
