use Rattle.std.proofs.Common.{refl, ap}
use Rattle.std.specs.Int.{w32, w64, to_be_bytes}
use Rattle.frames.proofs.PutsLemmas.{Puts-first, Puts-then}
use Rattle.frames.proofs.encoder.put_attempt.Goals as goal

pub returns : goal.returns
returns c =
    let a = c.args.attempt.now in
    let p = Puts-first _ (to_be_bytes w64 a.session) refl c.put_u64-at.ensures in
    let q = Puts-then _ _ (to_be_bytes w64 a.job) p refl c.put_u64-at-2.ensures in
    let r = Puts-then _ _ (to_be_bytes w32 a.worker) q (ap (to_be_bytes w32) c.number.ensures.value) c.put_u32-at.ensures in
    Puts-then _ _ (to_be_bytes w64 a.incarnation) r refl c.put_u64.ensures
