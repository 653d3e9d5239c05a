use Rattle.std.proofs.Common.{◌≡◌, ◌⊎◌, sym, subst}
use Rattle.lrat_check.specs.ProofFaults.{no_memory}
use Rattle.proof_check.specs.Stream.{Within, Failed}
use Rattle.proof_check.specs.inner.Stream.{LeadsTo}
use Rattle.proof_check.proofs.StreamLemmas.{hands_lead, stops_lead}
use Rattle.proof_check.proofs.stream.take_piece.Goals as goal

pub returns-in-Ok : goal.returns-in-Ok
returns-in-Ok c = (c.in-Ok.ensures.0, hands_lead c.args.steps.now c.args.begun.now c.args.piece.now c.feed.new.taker c.feed.new.self c.in-Ok.ensures.1)

pub returns-in-Err : goal.returns-in-Err
returns-in-Err c =
    subst (λ fault. (fault ≡ no_memory) ⊎ LeadsTo (Within c.args.steps.now.checker c.args.steps.now.number c.args.begun.now) c.args.piece.now (Failed fault)) (sym c.refused.ensures)
    (stops_lead c.args.steps.now c.args.begun.now c.args.piece.now c.feed.new.taker c.in-Err.fault c.in-Err.ensures)
