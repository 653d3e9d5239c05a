use Rattle.std.proofs.Common.{◌∙◌, sym}
use Rattle.sessions.proofs.FeedLemmas.{follows_end}
use Rattle.sessions.proofs.FinishLemmas.{proof_wanted}
use Rattle.sessions.proofs.ReadLemmas.{taken_proof}
use Rattle.sessions.proofs.check.SessionCheck.end_proof.Goals as goal

pub returns-in-Proof-clause-taken : goal.returns-in-Proof-clause-taken
returns-in-Proof-clause-taken c = λ L e p h.
    let x = c.args.self.now in
    let reading = proof_wanted x.fault x.proof.phase x.proof.no_event (sym c.wants.ensures ∙ c.in-Proof.is) in
    taken_proof e p p x c.end.new.self c.end.ensures.flag (λ E f. follows_end E p x.proof c.end.new.self reading c.end.ensures.ends f) h
