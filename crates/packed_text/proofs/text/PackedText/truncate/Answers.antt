use Rattle.std.proofs.Common.{◌≡◌, ◌+◌, ◌≤◌, ◌*◌, ◌/◌, ◌-◌, ◌%◌, ◌++◌, ℕ, List, length, take, drop, sym, ap, ◌∙◌, arith}
use Rattle.std.specs.List.{flat_map}
use Rattle.packed_text.specs.Packed.{byte_text}
use Rattle.packed_text.proofs.PackedLemmas.{first_of_tail, first_of_blocks}
use Rattle.packed_text.proofs.text.PackedText.truncate.Goals as goal

pub returns-then-count-packed : goal.returns-then-count-packed
returns-then-count-packed c =
    let t = c.self.inside in
    let count = c.args.count in
    let len : c.len-packed.result ≡ length t.pairs = omega (arith, c.len-packed.ensures.len) in
    ap (λ (ts : List ℕ). flat_map byte_text t.pairs ++ ts) (c.truncate.ensures.items ∙ ap (λ (k : ℕ). take (count - 2 * k) t.tail.items) len)
    ∙ sym (first_of_tail t.pairs t.tail.items count c.self.invariant.0 (omega (arith, len, c.if-count-packed.true)))
    ∙ ap (take count) c.self.view_is

pub returns : goal.returns
returns c =
    let t = c.self.inside in
    let count = c.args.count in
    let k = count / 4096 in
    let len : c.len-packed.result ≡ length t.pairs = omega (arith, c.len-packed.ensures.len) in
    let block : length c.part.result.now ≡ 2048 = c.part.ensures.whole (omega arith) in
    let inside : 2048 * k ≤ length t.pairs = omega (arith, len, c.if-count-packed.false) in
    let count_is : 4096 * k + count % 4096 ≡ count = omega arith in
    let front : c.part.result.now ≡ take 2048 (drop (2048 * k) t.pairs) = c.part.ensures.part ∙ ap (λ (n : ℕ). take n (drop (2048 * k) t.pairs)) block in
    ap (λ (bs : List ℕ). flat_map byte_text bs ++ c.refill.new.tail.items) c.truncate-2.ensures
    ∙ ap (λ (ts : List ℕ). flat_map byte_text (take (2048 * k) t.pairs) ++ ts) c.refill.ensures.items
    ∙ sym (first_of_blocks t.pairs t.tail.items c.part.result.now k (count % 4096) c.self.invariant.0 inside front block (omega arith))
    ∙ ap (λ (n : ℕ). take n (flat_map byte_text t.pairs ++ t.tail.items)) count_is
    ∙ ap (take count) c.self.view_is
