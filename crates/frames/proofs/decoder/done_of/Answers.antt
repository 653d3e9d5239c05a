use Rattle.std.proofs.Common.{refl}
use Rattle.frames.proofs.NoFrames.{no_done}
use Rattle.frames.proofs.decoder.done_of.Goals as goal

pub returns-in_default-clause-decodes : goal.returns-in_default-clause-decodes
returns-in_default-clause-decodes c = λ _. (refl, no_done c.args.payload.now c.in_default.ensures)
