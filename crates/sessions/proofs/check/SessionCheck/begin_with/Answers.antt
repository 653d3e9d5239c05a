use Rattle.std.proofs.Common.{refl}
use Rattle.sessions.proofs.ReadLemmas.{taken_part}
use Rattle.sessions.proofs.check.SessionCheck.begin_with.Goals as goal

pub returns-in-Ok-clause-taken : goal.returns-in-Ok-clause-taken
returns-in-Ok-clause-taken c = λ L e p bare h. taken_part e p c.args.piece.now c.args.self.now _ c.requires.fine c.requires.more refl refl refl refl c.in-Ok.ensures.items bare h
