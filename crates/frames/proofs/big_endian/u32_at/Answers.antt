use Rattle.std.proofs.Common.{arith, ap, sym, ◌∙◌, List, ℕ, ◌++◌}
use Rattle.std.specs.Int.{w32, to_be_bytes, from_be_bytes}
use Rattle.frames.proofs.FieldLemmas.{parts_32}
use Rattle.frames.proofs.NumberLemmas.{number_32}
use Rattle.frames.proofs.big_endian.u32_at.Goals as goal

pub returns-clause-parts : goal.returns-clause-parts
returns-clause-parts c =
    let n = c.read_u32.result in
    parts_32 c.args.bytes.now n (λ i. omega (arith, c.type_inv.bytes i)) c.requires (c.read_u32.ensures ∙ number_32 c.split_at.result.0.now ∙ ap (from_be_bytes w32) c.split_at.ensures.front)
    ∙ ap (λ (x : List ℕ). to_be_bytes w32 n ++ x) (sym c.split_at.ensures.back)
