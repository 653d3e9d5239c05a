use Rattle.std.proofs.Common.{arith, ap, sym, ◌∙◌, List, ℕ, ◌++◌}
use Rattle.std.specs.Int.{w64, to_be_bytes, from_be_bytes}
use Rattle.frames.proofs.FieldLemmas.{parts_64}
use Rattle.frames.proofs.NumberLemmas.{number_64}
use Rattle.frames.proofs.big_endian.u64_at.Goals as goal

pub returns-clause-parts : goal.returns-clause-parts
returns-clause-parts c =
    let n = c.read_u64.result in
    parts_64 c.args.bytes.now n (λ i. omega (arith, c.type_inv.bytes i)) c.requires (c.read_u64.ensures ∙ number_64 c.split_at.result.0.now ∙ ap (from_be_bytes w64) c.split_at.ensures.front)
    ∙ ap (λ (x : List ℕ). to_be_bytes w64 n ++ x) (sym c.split_at.ensures.back)
