use Rattle.std.proofs.Common.{◌≡◌, ◌*◌, ◌/◌, ◌%◌, ◌-◌, ◌++◌, ℕ, List, length, take, drop, sym, ap, subst, ◌∙◌, arith, IfOk}
use Rattle.std.specs.List.{flat_map}
use Rattle.packed_text.specs.Packed.{byte_text}
use Rattle.packed_text.proofs.PackedLemmas.{behind_pairs, from_place}
use Rattle.packed_text.proofs.text.PackedText.read.Goals as goal

pub returns-then-from-packed : goal.returns-then-from-packed
returns-then-from-packed c =
    let t = c.self.inside in
    let len : c.len-packed.result ≡ length t.pairs = omega (arith, c.len-packed.ensures.len) in
    let same : drop (c.args.from - 2 * c.len-packed.result) t.tail.items ≡ drop c.args.from c.args.self.now =
    ap (λ (k : ℕ). drop (c.args.from - 2 * k) t.tail.items) len
    ∙ sym (behind_pairs t.pairs t.tail.items c.args.from c.self.invariant.0 (omega (arith, len, c.if-from-packed.true)))
    ∙ ap (drop c.args.from) c.self.view_is in
    subst (λ (ts : List ℕ). IfOk c.part_of_tail.result (λ v. v.items ≡ take c.args.count ts)) same
    (subst (λ (ts : List ℕ). IfOk c.part_of_tail.result (λ v. v.items ≡ take c.args.count (drop (c.args.from - 2 * c.len-packed.result) ts))) c.deref.ensures.value c.part_of_tail.ensures)

pub returns : goal.returns
returns c =
    let t = c.self.inside in
    let from = c.args.from in
    let len : c.len-packed.result ≡ length t.pairs = omega (arith, c.len-packed.ensures.len) in
    let m : from - 2 * (from / 2) ≡ from % 2 = omega arith in
    let text = flat_map byte_text (drop (from / 2) t.pairs) ++ t.tail.items in
    c.cut.ensures
    ∙ (c.in_ok-out.ensures (from % 2) (omega arith)).1
    ∙ ap (λ (ts : List ℕ). take c.args.count (drop (from % 2) (flat_map byte_text (drop (from / 2) t.pairs) ++ ts))) c.deref-2.ensures.value
    ∙ sym (ap (take c.args.count) (sym (ap (drop from) c.self.view_is) ∙ from_place t.pairs t.tail.items from (from / 2) c.self.invariant.0 (omega (arith, len, c.if-from-packed.false)) (omega arith) ∙ ap (λ (k : ℕ). drop k text) m))
