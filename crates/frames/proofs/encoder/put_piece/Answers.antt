use Rattle.frames.proofs.PutsLemmas.{Puts-then}
use Rattle.frames.proofs.encoder.put_piece.Goals as goal

pub returns : goal.returns
returns c =
    Puts-then _ _ c.args.bytes.now c.put_fetch-at.ensures c.as_slice.ensures c.put_bytes.ensures
