use Rattle.std.proofs.Common.{◌≡◌, ℕ, ◌+◌, ◌==◌, List, length, drop, refl, ap, ◌∙◌, arith}
use Rattle.std.specs.List.{count_by}
use Rattle.proof_trim.proofs.LineLemmas.{block_counted, block_inside, block_more, lines_fit}
use Rattle.proof_trim.proofs.line_scan.count_lines.Goals as goal

pub overflow_add-lines : goal.overflow_add-lines
overflow_add-lines c =
    let more : List ℕ = c.in_ok-block.block.items in
    let text : List ℕ = c.args.text.now in
    let from : ℕ = c.loop-from.from in
    let here : c.count-lines.result ≡ count_by (λ b. b == 10) more = c.count-lines.ensures ∙ ap (λ (t : List ℕ). count_by (λ b. b == 10) t) c.deref.ensures.value in
    let few = lines_fit c.loop-from.lines c.count-lines.result (count_by (λ b. b == 10) more) (count_by (λ b. b == 10) (drop (from + length more) text)) (count_by (λ b. b == 10) (drop from text)) text here
    (block_counted more text from (length more) 4096 c.in_ok-block.ensures refl) c.loop-from.invariant.all in
    omega (arith, few, c.len.ensures, c.len.type_inv)

pub overflow_add-from : goal.overflow_add-from
overflow_add-from c =
    let block = c.in_ok-block.block in
    let inside = block_inside block.items c.args.text.now c.loop-from.from c.len-from.result 4096 c.in_ok-block.ensures (c.len-from.ensures ∙ block.ok.0) (omega (arith, c.loop-from-test.true, c.len.ensures)) in
    omega (arith, inside, c.len.ensures, c.len.type_inv)

pub loop-from-preserved : goal.loop-from-preserved
loop-from-preserved c =
    let block = c.in_ok-block.block in
    let text : List ℕ = c.args.text.now in
    let from : ℕ = c.loop-from.from in
    let n : ℕ = c.len-from.result in
    let here : c.count-lines.result ≡ count_by (λ b. b == 10) block.items = c.count-lines.ensures ∙ ap (λ (t : List ℕ). count_by (λ b. b == 10) t) c.deref.ensures.value in
    record {
      all = block_more c.loop-from.lines c.count-lines.result (count_by (λ b. b == 10) block.items) (count_by (λ b. b == 10) (drop (from + n) text)) (count_by (λ b. b == 10) (drop from text)) (count_by (λ b. b == 10) text) here
          (block_counted block.items text from n 4096 c.in_ok-block.ensures (c.len-from.ensures ∙ block.ok.0)) c.loop-from.invariant.all;
      inside = block_inside block.items text from n 4096 c.in_ok-block.ensures (c.len-from.ensures ∙ block.ok.0) (omega (arith, c.loop-from-test.true, c.len.ensures));
    }
