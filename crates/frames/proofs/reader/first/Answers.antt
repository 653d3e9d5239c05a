use Rattle.std.proofs.Common.{◌≡◌, Err, ◌+◌, ◌≤◌, sym, ap, ◌∙◌, subst, arith, length, take, drop}
use Rattle.std.proofs.lemmas.Result.{err_from_is_err_and}
use Rattle.frames.specs.declared.fault.FrameFault.TheVariants.{NoMemory}
use Rattle.frames.specs.declared.frame.Frame.{Frame}
use Rattle.frames.specs.declared.header.Header.TheVariants.{Whole}
use Rattle.frames.specs.WireFormat.{allows_length}
use Rattle.frames.specs.Stream.{header_of, Begins, Ends, Fault}
use Rattle.frames.specs.MemoryNeeds.{NeedsMemory}
use Rattle.frames.specs.inner.Decoder.{IsPayloadOf}
use Rattle.frames.proofs.Headers.{head_limit}
use Rattle.frames.proofs.Streams.{first_whole, first_bad}
use Rattle.frames.proofs.reader.first.Goals as goal

pub frame_of-requires : goal.frame_of-requires
frame_of-requires c =
    let head : header_of c.args.bytes.now ≡ Whole c.in-Whole.kind c.in-Whole.len = sym c.read_header.ensures ∙ c.in-Whole.is in
    ap (allows_length c.in-Whole.kind) c.split_at-in-Whole.ensures.front_len ∙ (head_limit c.args.bytes.now c.in-Whole.kind c.in-Whole.len head).0

pub returns-in_err-frame-in-Whole-clause-first : goal.returns-in_err-frame-in-Whole-clause-first
returns-in_err-frame-in-Whole-clause-first c =
    let p = err_from_is_err_and c.from_residual.result c.from_residual.ensures.1 in
    rw (p.1, p.2) (λ other.
    let b = c.args.bytes.now in
    let k = c.in-Whole.kind in
    let n = c.in-Whole.len in
    let head : header_of b ≡ Whole k n = sym c.read_header.ensures ∙ c.in-Whole.is in
    let front = c.split_at-in-Whole.ensures.front ∙ ap (take n) c.split_at.ensures.back in
    let back = c.split_at-in-Whole.ensures.back ∙ ap (drop n) c.split_at.ensures.back in
    let long : 5 + n ≤ length b = omega (arith, c.if-bytes-len.false, (head_limit b k n head).1) in
    let d = c.in_err-frame-in-Whole.ensures.decodes other in
    subst (λ f. Ends b (Fault f)) (sym d.0) (first_bad b k n head long (subst (λ p. (f : Frame) → IsPayloadOf k p f → ⊥) front d.1)))

pub returns-in_ok-frame-in-Whole-clause-first : goal.returns-in_ok-frame-in-Whole-clause-first
returns-in_ok-frame-in-Whole-clause-first c =
    let b = c.args.bytes.now in
    let k = c.in-Whole.kind in
    let n = c.in-Whole.len in
    let f = c.in_ok-frame-in-Whole.frame in
    let head : header_of b ≡ Whole k n = sym c.read_header.ensures ∙ c.in-Whole.is in
    let front = c.split_at-in-Whole.ensures.front ∙ ap (take n) c.split_at.ensures.back in
    let back = c.split_at-in-Whole.ensures.back ∙ ap (drop n) c.split_at.ensures.back in
    let long : 5 + n ≤ length b = omega (arith, c.if-bytes-len.false, (head_limit b k n head).1) in
    subst (Begins b f) (sym back) (first_whole b k n f (λ i. omega (arith, c.type_inv.bytes i)) head long (subst (λ p. IsPayloadOf k p f) front c.in_ok-frame-in-Whole.ensures.decodes))

pub returns-in_err-frame-in-Whole-clause-room : goal.returns-in_err-frame-in-Whole-clause-room
returns-in_err-frame-in-Whole-clause-room c = λ refused.
    let p = err_from_is_err_and c.from_residual.result c.from_residual.ensures.1 in
    let b = c.args.bytes.now in
    let k = c.in-Whole.kind in
    let n = c.in-Whole.len in
    let head : header_of b ≡ Whole k n = sym c.read_header.ensures ∙ c.in-Whole.is in
    let same : c.in_err-frame-in-Whole.field-0.0 ≡ NoMemory = cc in
    record {
      kind = k;
      len = n;
      head = head;
      whole = omega (arith, c.if-bytes-len.false, (head_limit b k n head).1);
      takes = subst (NeedsMemory k) c.split_at-in-Whole.ensures.front_len (c.in_err-frame-in-Whole.ensures.room (ap Err same));
    }
