use Rattle.std.proofs.Common.{refl, ap}
use Rattle.std.specs.Int.{w64, to_be_bytes}
use Rattle.std.specs.List.{flat_map}
use Rattle.frames.specs.WireFormat.{literal_bytes}
use Rattle.frames.proofs.PutsLemmas.{Puts-first, Puts-then}
use Rattle.frames.proofs.encoder.put_task.Goals as goal

pub returns : goal.returns
returns c =
    let p = Puts-first _ (to_be_bytes w64 c.args.session) refl c.put_u64-at.ensures in
    let q = Puts-then _ _ (to_be_bytes w64 c.args.job) p refl c.put_u64-at-2.ensures in
    let r = Puts-then _ _ (to_be_bytes w64 c.args.limit) q refl c.put_u64-at-3.ensures in
    Puts-then _ _ (flat_map literal_bytes c.args.cube.now) r (ap (flat_map literal_bytes) c.as_slice.ensures.value) c.put_literals.ensures
