use Rattle.std.proofs.Common.{◌≡◌, ◌+◌, ◌-◌, ◌++◌, List, ℕ, take, drop, ap, sym, ◌∙◌, append_assoc, arith}
use Rattle.std.specs.List.{flat_map}
use Rattle.std.proofs.lemmas.Bool.{MatchBool-at_true}
use Rattle.std.proofs.Math.Seq.{take-add}
use Rattle.packed_text.specs.Packed.{byte_text}
use Rattle.packed_text.proofs.text.pack_front.Goals as goal

pub loop-done-preserved : goal.loop-done-preserved
loop-done-preserved c =
    let done = c.loop-done.done in
    let text = c.args.text.now in
    let old = flat_map byte_text c.args.pairs.now in
    let block : done + 4096 - done ≡ 4096 = omega arith in
    let more : flat_map byte_text c.pack_block.new.pairs ≡ flat_map byte_text c.loop-done.pairs ++ take (done + 4096 - done) (drop done text) = MatchBool-at_true _ _ c.if-not-pack_block.false c.pack_block.ensures.text in
    record {
      pairs = c.pack_block.ensures.pairs;
      front = more
          ∙ ap (λ (t : List ℕ). t ++ take (done + 4096 - done) (drop done text)) c.loop-done.invariant.front
          ∙ append_assoc old (take done text) (take (done + 4096 - done) (drop done text))
          ∙ ap (λ (n : ℕ). old ++ (take done text ++ take n (drop done text))) block
          ∙ ap (λ (t : List ℕ). old ++ t) (sym (take-add done 4096 text));
      few = omega (arith, c.loop-done-test.true);
    }
