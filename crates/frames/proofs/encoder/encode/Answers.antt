use Rattle.std.proofs.Common.{◌≡◌, ap, ◌∙◌, refl, ◌∷◌, ◌++◌, drop, length, zero-add}
use Rattle.std.specs.Int.{w16, to_be_bytes}
use Rattle.frames.specs.WireFormat.{FrameBytes, kind_number, kind_of, payload}
use Rattle.frames.proofs.PutsLemmas.{Puts-first, Puts-then}
use Rattle.frames.proofs.encoder.encode.Goals as goal

pub returns-clause-written : goal.returns-clause-written
returns-clause-written c =
    let f = c.args.frame.now in
    let head : (67 ∷ 67 ∷ kind_number c.kind.result ∷ to_be_bytes w16 c.payload_len-len.result) ≡ (67 ∷ 67 ∷ kind_number (kind_of f) ∷ to_be_bytes w16 (length (payload f))) = ap (λ k. 67 ∷ 67 ∷ kind_number k ∷ to_be_bytes w16 c.payload_len-len.result) c.kind.ensures ∙ ap (λ n. 67 ∷ 67 ∷ kind_number (kind_of f) ∷ to_be_bytes w16 n) c.payload_len-len.ensures.value in
    let p = Puts-first _ (67 ∷ 67 ∷ kind_number (kind_of f) ∷ to_be_bytes w16 (length (payload f))) head c.put_header-at.ensures in
    let whole = Puts-then _ _ (payload f) p refl c.put_payload.ensures in
    whole.now ∙ ap (λ n. FrameBytes f ++ drop n c.args.out.now) (zero-add (length (FrameBytes f)))
