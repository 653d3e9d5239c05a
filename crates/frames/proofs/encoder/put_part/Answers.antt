use Rattle.std.proofs.Common.{refl, ap, ◌∷◌, []}
use Rattle.std.specs.Int.{w32, w64, to_be_bytes}
use Rattle.frames.specs.Answers.{answer_number}
use Rattle.frames.proofs.PutsLemmas.{Puts-first, Puts-then}
use Rattle.frames.proofs.encoder.put_part.Goals as goal

pub returns : goal.returns
returns c =
    let p = Puts-first _ (to_be_bytes w64 c.args.session) refl c.put_u64-at.ensures in
    let q = Puts-then _ _ (answer_number c.args.answer ∷ []) p (ap (λ n. n ∷ []) c.number-number.ensures) c.put_bytes-at.ensures in
    let r = Puts-then _ _ (to_be_bytes w32 c.args.offset) q refl c.put_u32-at.ensures in
    Puts-then _ _ c.args.bytes.now r c.as_slice.ensures c.put_bytes.ensures
