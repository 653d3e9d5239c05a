use Rattle.std.proofs.Common.{◌≡◌, ◌⊎◌, sym, subst}
use Rattle.lrat_check.specs.ProofFaults.{no_memory}
use Rattle.lrat_check.specs.Stream.{Within, Failed}
use Rattle.lrat_check.specs.inner.Stream.{LeadsTo}
use Rattle.lrat_check.proofs.Streams.{hands_lead, stops_lead}
use Rattle.lrat_check.proofs.stream.take_piece.Goals as goal

pub returns-in-Ok-clause-taken : goal.returns-in-Ok-clause-taken
returns-in-Ok-clause-taken c = (c.in-Ok.ensures.taken.0, hands_lead c.args.lines.now c.args.begun.now c.args.piece.now c.feed.new.taker c.feed.new.self c.in-Ok.ensures.taken.1)

pub returns-in-Err-clause-taken : goal.returns-in-Err-clause-taken
returns-in-Err-clause-taken c =
    subst (λ fault. (fault ≡ no_memory) ⊎ LeadsTo (Within c.args.lines.now.limit.most c.args.lines.now.checker c.args.lines.now.line c.args.begun.now) c.args.piece.now (Failed fault)) (sym c.of_piece.ensures)
    (stops_lead c.args.lines.now c.args.begun.now c.args.piece.now c.feed.new.taker c.in-Err.fault c.in-Err.ensures.taken)
