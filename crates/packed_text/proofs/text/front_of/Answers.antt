use Rattle.std.proofs.Common.{◌≡◌, ◌++◌, ◌≤◌, ◌-◌, ◌⊎◌, eq-zero-or-pos, ℕ, List, length, take, drop, sym, ap, subst, ◌∙◌, arith, inl, inr}
use Rattle.std.specs.List.{flat_map}
use Rattle.std.proofs.lemmas.List.{take_all, length-drop}
use Rattle.std.proofs.lemmas.List.Elements.{All-drop}
use Rattle.packed_text.specs.Packed.{byte_text}
use Rattle.packed_text.specs.inner.Packed.{IsFront, IsPair}
use Rattle.packed_text.proofs.PackedLemmas.{short_front, whole_front}
use Rattle.packed_text.proofs.text.front_of.Goals as goal

pub returns-then-few-left : goal.returns-then-few-left
returns-then-few-left c =
    let bs = drop c.args.from c.args.pairs.now in
    let few = c.min-few.result in
    let left : length bs ≡ length c.args.pairs.now - c.args.from = length-drop c.args.from c.args.pairs.now in
    let out : c.unpack_part.new.out.items ≡ flat_map byte_text (take few bs) = c.in_ok-unpack_part.ensures ∙ ap (λ (ts : List ℕ). ts ++ flat_map byte_text (take few bs)) c.in_ok-out.ensures.items in
    subst (λ (ts : List ℕ). IsFront c.args.count ts (flat_map byte_text bs ++ c.args.tail.now)) (sym out)
    (short_front bs c.args.tail.now few c.args.count (All-drop IsPair c.args.from c.args.pairs.now c.requires.pairs) (omega (arith, left, c.len.ensures.len, c.if-few-left.true)) (omega (arith, c.min-few.ensures, c.if-few-left.true)))

pub returns : goal.returns
returns c =
    let bs = drop c.args.from c.args.pairs.now in
    let few = c.min-few.result in
    let left : length bs ≡ length c.args.pairs.now - c.args.from = length-drop c.args.from c.args.pairs.now in
    let all : take few bs ≡ bs = take_all few bs (omega (arith, left, c.len.ensures.len, c.if-few-left.false)) in
    let out : c.unpack_part.new.out.items ≡ flat_map byte_text bs = c.in_ok-unpack_part.ensures ∙ ap (λ (ts : List ℕ). ts ++ flat_map byte_text (take few bs)) c.in_ok-out.ensures.items ∙ ap (flat_map byte_text) all in
    let whole : c.extend_from_slice.new.self.items ≡ flat_map byte_text bs ++ take c.min.result c.args.tail.now = c.in_ok-extend_from_slice.ensures.items ∙ ap (λ (ts : List ℕ). ts ++ take c.min.result c.args.tail.now) out in
    let tail = c.args.tail.now in
    let end : ((c.min.result ≡ c.args.count) × (c.args.count ≤ length tail)) ⊎ (c.min.result ≡ length tail) =
    elim (eq-zero-or-pos (c.args.count - length tail)) [
      | inl z ↦ inl (omega (arith, c.min.ensures, z), omega (arith, z))
      | inr g ↦ inr (omega (arith, c.min.ensures, g))
    ] in
    subst (λ (ts : List ℕ). IsFront c.args.count ts (flat_map byte_text bs ++ c.args.tail.now)) (sym whole)
    (whole_front bs c.args.tail.now c.args.count c.min.result (All-drop IsPair c.args.from c.args.pairs.now c.requires.pairs) (omega (arith, left, c.requires.some)) end)
