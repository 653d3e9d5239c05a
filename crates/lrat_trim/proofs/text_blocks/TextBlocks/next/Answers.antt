use Rattle.std.proofs.Common.{◌≡◌, ◌+◌, ◌<◌, ◌++◌, ◌∙◌, List, ℕ, length, drop, lit<, subst, sym, refl, arith}
use Rattle.lrat_trim.proofs.BlockLemmas.{block_rest, block_fits, block_less}
use Rattle.lrat_trim.proofs.text_blocks.TextBlocks.next.Goals as goal

pub overflow_add-self : goal.overflow_add-self
overflow_add-self c =
    let block = c.in_ok-block.block in
    let fits = block_fits block.items c.self.inside.text.now c.self.inside.from c.len-2.result 65536 c.in_ok-block.ensures (c.len-2.ensures ∙ block.ok.0) (omega (arith, c.if-self-len.false, c.len.ensures)) in
    omega (arith, fits, c.len.ensures, c.len.type_inv)

pub returns : goal.returns
returns c =
    let block = c.in_ok-block.block in
    let text : List ℕ = c.self.inside.text.now in
    let from : ℕ = c.self.inside.from in
    let n : ℕ = c.len-2.result in
    let P : List ℕ → Type 0 = λ v. (v ≡ block.items ++ drop (from + n) text) × (length (drop (from + n) text) < length v) in
    subst P c.self.view_is (
      block_rest block.items text from n 65536 c.in_ok-block.ensures (c.len-2.ensures ∙ block.ok.0),
      block_less block.items text from n 65536 c.in_ok-block.ensures (c.len-2.ensures ∙ block.ok.0) (omega (arith, c.if-self-len.false, c.len.ensures)) (lit< tt),
    )
