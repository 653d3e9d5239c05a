use Rattle.std.proofs.Common.{◌≡◌, ℕ, List, ◌<◌, ◌%◌, ◌/◌, ◌∙◌, ap, length, take, drop, get_or, arith}
use Rattle.std.specs.List.{flat_map}
use Rattle.packed_text.proofs.RopeLemmas.{inside_blocks, inside_block, block_front, block_at}
use Rattle.packed_text.proofs.rope.Rope.part.Goals as goal

pub index-requires : goal.index-requires
index-requires c =
    let r = c.self.inside in
    let inside : c.args.from < length (flat_map (λ b. b.value.items) r.blocks.items) = omega (arith, c.requires, ap length c.self.view_is) in
    omega (arith, r.blocks.ok, inside_blocks (λ b. b.value.items) r.blocks.items c.args.from c.self.invariant.0 inside)

pub split_at-requires : goal.split_at-requires
split_at-requires c =
    let r = c.self.inside in
    let inside : c.args.from < length (flat_map (λ b. b.value.items) r.blocks.items) = omega (arith, c.requires, ap length c.self.view_is) in
    let d = c.index.result.now in
    let block : c.as_slice-block.result.now ≡ (get_or r.blocks.items (c.args.from / 2048) d).value.items =
    c.as_slice-block.ensures.value ∙ ap (λ v. v.items) c.deref.ensures ∙ ap (λ b. b.value.items) c.index.ensures in
    omega (arith, ap length block, inside_block (λ b. b.value.items) r.blocks.items c.args.from d c.self.invariant.0 inside)

pub returns-clause-part : goal.returns-clause-part
returns-clause-part c =
    let r = c.self.inside in
    let inside : c.args.from < length (flat_map (λ b. b.value.items) r.blocks.items) = omega (arith, c.requires, ap length c.self.view_is) in
    let d = c.index.result.now in
    let is : c.split_at.result.1.now ≡ drop (c.args.from % 2048) ((get_or r.blocks.items (c.args.from / 2048) d).value.items) =
    c.split_at.ensures.back ∙ ap (drop (c.args.from % 2048)) (c.as_slice-block.ensures.value ∙ ap (λ v. v.items) c.deref.ensures ∙ ap (λ b. b.value.items) c.index.ensures) in
    block_front (λ b. b.value.items) r.blocks.items c.args.from d c.split_at.result.1.now c.self.invariant.0 inside is
    ∙ ap (λ (ts : List ℕ). take (length c.split_at.result.1.now) (drop c.args.from ts)) c.self.view_is

pub returns-clause-some : goal.returns-clause-some
returns-clause-some c =
    let r = c.self.inside in
    let inside : c.args.from < length (flat_map (λ b. b.value.items) r.blocks.items) = omega (arith, c.requires, ap length c.self.view_is) in
    let d = c.index.result.now in
    let block : c.as_slice-block.result.now ≡ (get_or r.blocks.items (c.args.from / 2048) d).value.items =
    c.as_slice-block.ensures.value ∙ ap (λ v. v.items) c.deref.ensures ∙ ap (λ b. b.value.items) c.index.ensures in
    omega (arith, ap length block, inside_block (λ b. b.value.items) r.blocks.items c.args.from d c.self.invariant.0 inside, c.split_at.ensures.back_len)

pub returns-clause-few : goal.returns-clause-few
returns-clause-few c =
    let r = c.self.inside in
    let inside : c.args.from < length (flat_map (λ b. b.value.items) r.blocks.items) = omega (arith, c.requires, ap length c.self.view_is) in
    let d = c.index.result.now in
    let block : c.as_slice-block.result.now ≡ (get_or r.blocks.items (c.args.from / 2048) d).value.items =
    c.as_slice-block.ensures.value ∙ ap (λ v. v.items) c.deref.ensures ∙ ap (λ b. b.value.items) c.index.ensures in
    omega (arith, ap length block, block_at (λ b. b.value.items) r.blocks.items (c.args.from / 2048) d c.self.invariant.0 (inside_blocks (λ b. b.value.items) r.blocks.items c.args.from c.self.invariant.0 inside), c.split_at.ensures.back_len)

pub returns-clause-whole : goal.returns-clause-whole
returns-clause-whole c even =
    let r = c.self.inside in
    let inside : c.args.from < length (flat_map (λ b. b.value.items) r.blocks.items) = omega (arith, c.requires, ap length c.self.view_is) in
    let d = c.index.result.now in
    let block : c.as_slice-block.result.now ≡ (get_or r.blocks.items (c.args.from / 2048) d).value.items =
    c.as_slice-block.ensures.value ∙ ap (λ v. v.items) c.deref.ensures ∙ ap (λ b. b.value.items) c.index.ensures in
    omega (arith, even, ap length block, block_at (λ b. b.value.items) r.blocks.items (c.args.from / 2048) d c.self.invariant.0 (inside_blocks (λ b. b.value.items) r.blocks.items c.args.from c.self.invariant.0 inside), c.split_at.ensures.back_len)
