use Rattle.leaves.proofs.SearchSessionLemmas.{begins}
use Rattle.leaves.proofs.search_session.SearchSession.new.Goals as goal

pub returns-clause-stands : goal.returns-clause-stands
returns-clause-stands g c =
    let e = c.in_ok-new.ensures in
    begins c.args.base.now (record { session = c.in_ok-new.field-0; log = c.new-2.result }) e.vars e.last e.log e.given e.known c.new-2.ensures
