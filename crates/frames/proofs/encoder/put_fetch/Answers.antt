use Rattle.std.proofs.Common.{refl}
use Rattle.std.specs.Int.{w32, to_be_bytes}
use Rattle.frames.proofs.PutsLemmas.{Puts-then}
use Rattle.frames.proofs.encoder.put_fetch.Goals as goal

pub returns : goal.returns
returns c =
    Puts-then _ _ (to_be_bytes w32 c.args.offset) c.put_attempt-at.ensures refl c.put_u32.ensures
