use Rattle.std.proofs.Common.{refl}
use Rattle.frames.specs.WireFormat.{ending_bytes}
use Rattle.frames.proofs.PutsLemmas.{Puts-then}
use Rattle.frames.proofs.encoder.put_done.Goals as goal

pub returns : goal.returns
returns c =
    Puts-then _ _ (ending_bytes c.args.ending.now) c.put_attempt-at.ensures refl c.put_ending.ensures
