use Rattle.std.proofs.Common.{◌*◌, ap, sym, ◌∙◌, take}
use Rattle.std.specs.List.{flat_map}
use Rattle.packed_text.proofs.RopeLemmas.{first_blocks}
use Rattle.packed_text.proofs.rope.Rope.truncate.Goals as goal

pub returns : goal.returns
returns c =
    let r = c.self.inside in
    ap (flat_map (λ b. b.value.items)) c.truncate.ensures.items
    ∙ sym (first_blocks (λ b. b.value.items) r.blocks.items c.args.blocks c.self.invariant.0)
    ∙ ap (take (2048 * c.args.blocks)) c.self.view_is
