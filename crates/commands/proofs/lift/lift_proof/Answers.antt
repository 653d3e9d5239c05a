use Rattle.commands.specs.inner.Filter.{IsFiltered}
use Rattle.commands.proofs.OfLemmas.{of_opened_ok}
use Rattle.commands.proofs.lift.lift_proof.Goals as goal

pub returns-clause-poured : goal.returns-clause-poured
returns-clause-poured g c =
    let log = c.args.files.now.log in
    of_opened_ok (IsFiltered g.P.Filter.moved g.P.Filter.ended g.D.Drafts.kept c.args.disk.now c.run_filter.new.disk log.binary log.path.now c.args.taker) _ _ c.run_filter.result
    c.in_ok-pieces.ensures.bytes (c.run_filter.ensures.poured log.binary log.path.now c.in_ok-part.ensures.begins)
