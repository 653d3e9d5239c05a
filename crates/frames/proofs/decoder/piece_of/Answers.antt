use Rattle.std.proofs.Common.{refl}
use Rattle.frames.proofs.NoFrames.{no_piece}
use Rattle.frames.proofs.decoder.piece_of.Goals as goal

pub returns-in_default : goal.returns-in_default
returns-in_default c = λ _. (refl, no_piece c.args.payload.now c.in_default.ensures)
