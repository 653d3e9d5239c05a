use Rattle.std.proofs.Common.{refl}
use Rattle.sessions.proofs.FeedLemmas.{follows_line}
use Rattle.sessions.proofs.proof_side.ProofSide.end_with.Goals as goal

pub returns-in-Ok-clause-follows : goal.returns-in-Ok-clause-follows
returns-in-Ok-clause-follows c = λ L E p reading bare f. follows_line E p c.args.text.now c.args.self.now _ _ reading refl refl refl refl c.in-Ok.ensures.items bare c.end_line.ensures.ends f
