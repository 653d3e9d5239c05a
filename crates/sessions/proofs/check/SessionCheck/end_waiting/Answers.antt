use Rattle.std.proofs.Common.{refl, sym, subst}
use Rattle.sessions.specs.Check.{HasTaken}
use Rattle.sessions.specs.declared.check.SessionCheck.{SessionCheck}
use Rattle.sessions.proofs.FinishLemmas.{events_wanted}
use Rattle.sessions.proofs.ReadLemmas.{taken_last}
use Rattle.sessions.proofs.check.SessionCheck.end_waiting.Goals as goal

pub end_row-requires : goal.end_row-requires
end_row-requires c =
    let x = c.args.self.now in
    let w = events_wanted x.fault x.proof.phase x.proof.no_event c.requires in
    record { waits = w.2; fine = w.0 }

pub returns-clause-taken : goal.returns-clause-taken
returns-clause-taken c = λ L e p h.
    let x = c.args.self.now in
    let w = events_wanted x.fault x.proof.phase x.proof.no_event c.requires in
    subst (λ (y : SessionCheck). HasTaken L e p y) (sym c.close.ensures)
    (taken_last e p x c.end_row.new.self _ w.0 w.1 c.end_row.ensures.row c.end_events.ensures.ends c.end_events.ensures.flag refl refl h)
