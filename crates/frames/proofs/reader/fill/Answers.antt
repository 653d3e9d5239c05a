use Rattle.std.proofs.Common.{◌∙◌, ap, arith, length, take, min, ◌++◌, List, ℕ}
use Rattle.frames.specs.inner.Buffer.{missing}
use Rattle.frames.proofs.BufferLemmas.{fills, step_within, lacks_fit, open_within}
use Rattle.frames.proofs.reader.fill.Goals as goal

pub top_up-head-requires : goal.top_up-head-requires
top_up-head-requires c =
    omega (arith, c.requires.room, lacks_fit c.args.buffer.now.items (open_within c.args.buffer.now.items c.requires.open))

pub top_up-payload-requires : goal.top_up-payload-requires
top_up-payload-requires c =
    let b = c.args.buffer.now.items in
    let b1 = c.top_up-head.new.buffer.items in
    omega (arith, c.requires.room, c.top_up-head.ensures.capacity, lacks_fit b1 (step_within b c.args.piece.now b1 c.top_up-head.result (open_within b c.requires.open) c.top_up-head.ensures.count c.top_up-head.ensures.now))

pub returns-clause-fills : goal.returns-clause-fills
returns-clause-fills c =
    let b1 = c.top_up-head.new.buffer.items in
    let back = c.split_at.ensures.back in
    fills c.args.buffer.now.items c.args.piece.now b1 c.top_up-payload.new.buffer.items c.top_up-head.result c.top_up-payload.result
    c.requires.open c.top_up-head.ensures.count c.top_up-head.ensures.now
    (c.top_up-payload.ensures.count ∙ ap (λ (x : List ℕ). min (missing b1) (length x)) back)
    (c.top_up-payload.ensures.now ∙ ap (λ (x : List ℕ). b1 ++ take c.top_up-payload.result x) back)
