use Rattle.std.proofs.lemmas.Result.{err_from_is_err_and}
use Rattle.sealed_links.proofs.OpenedLemmas.{stops_first}
use Rattle.sealed_links.proofs.incoming.Incoming.take.Goals as goal

pub returns-in_err-append-clause-err : goal.returns-in_err-append-clause-err
returns-in_err-append-clause-err c =
    let p = err_from_is_err_and c.from_residual.result c.from_residual.ensures.1 in
    rw (p.1, p.2) (stops_first c.in_err-append.field-0.0 c.args.self.now c.args.bytes.now c.args.out.now.items c.in_err-append.ensures.err.0)
