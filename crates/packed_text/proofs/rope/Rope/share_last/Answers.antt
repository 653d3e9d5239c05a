use Rattle.std.proofs.Common.{◌≡◌, ◌∙◌, ap, sym, get_or, arith}
use Rattle.packed_text.proofs.RopeLemmas.{block_set}
use Rattle.packed_text.proofs.rope.Rope.share_last.Goals as goal

pub returns-in-Ok : goal.returns-in-Ok
returns-in-Ok c =
    let r = c.self.inside in
    let last = c.in-Some.last in
    let d = c.index.result.now in
    let mine : c.as_slice-2.result.now ≡ (get_or r.blocks.items last d).value.items =
    c.as_slice-2.ensures.value ∙ ap (λ v. v.items) c.deref-3.ensures ∙ ap (λ b. b.value.items) c.index.ensures in
    let others : c.as_slice.result.now ≡ c.in-Some-get.other.now.value.items = c.as_slice.ensures.value ∙ ap (λ v. v.items) c.deref-2.ensures in
    let same : c.in-Ok.block.value.items ≡ (get_or r.blocks.items last d).value.items = ap (λ v. v.items) c.in-Ok.ensures.cases ∙ sym others ∙ c.is_same.ensures c.if-is_same.true ∙ mine in
    block_set (λ b. b.value.items) r.blocks.items last c.in-Ok.block d (omega (arith, c.len.ensures, r.blocks.ok, c.in-Some.ensures)) same ∙ c.self.view_is
