use Rattle.std.proofs.Common.{◌++◌, take}
use Rattle.sessions.proofs.FinishLemmas.{proof_wanted}
use Rattle.sessions.proofs.ReadLemmas.{taken_proof}
use Rattle.sessions.proofs.check.SessionCheck.feed_reading.Goals as goal

pub feed-requires : goal.feed-requires
feed-requires c = proof_wanted c.args.self.now.fault c.args.self.now.proof.phase c.args.self.now.proof.no_event c.requires

pub returns-clause-taken : goal.returns-clause-taken
returns-clause-taken c = λ L e p h. taken_proof e p (p ++ take c.feed.result c.args.piece.now) c.args.self.now c.feed.new.self c.feed.ensures.flag (λ E f. c.feed.ensures.follows L E p f) h
