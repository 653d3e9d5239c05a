use Rattle.std.proofs.Common.{refl}
use Rattle.frames.proofs.NoFrames.{no_fetch}
use Rattle.frames.proofs.decoder.fetch_of.Goals as goal

pub returns-in_default-clause-decodes : goal.returns-in_default-clause-decodes
returns-in_default-clause-decodes c = λ _. (refl, no_fetch c.args.payload.now c.in_default.ensures)
