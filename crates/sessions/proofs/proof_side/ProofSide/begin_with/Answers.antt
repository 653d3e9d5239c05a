use Rattle.std.proofs.Common.{refl}
use Rattle.sessions.proofs.FeedLemmas.{follows_part}
use Rattle.sessions.proofs.proof_side.ProofSide.begin_with.Goals as goal

pub returns-in-Ok-clause-follows : goal.returns-in-Ok-clause-follows
returns-in-Ok-clause-follows c = λ L E p reading bare f. follows_part E p c.args.piece.now c.args.self.now _ refl refl refl refl refl c.in-Ok.ensures.items bare reading f
