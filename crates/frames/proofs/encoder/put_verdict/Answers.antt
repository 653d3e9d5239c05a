use Rattle.std.proofs.Common.{refl}
use Rattle.std.specs.Int.{w64, to_be_bytes}
use Rattle.frames.specs.WireFormat.{finding_bytes}
use Rattle.frames.proofs.PutsLemmas.{Puts-first, Puts-then}
use Rattle.frames.proofs.encoder.put_verdict.Goals as goal

pub returns : goal.returns
returns c =
    let p = Puts-first _ (to_be_bytes w64 c.args.session) refl c.put_u64-at.ensures in
    Puts-then _ _ (finding_bytes c.args.finding.now) p refl c.put_finding.ensures
