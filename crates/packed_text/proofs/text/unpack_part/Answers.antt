use Rattle.std.proofs.Common.{◌≡◌, ◌+◌, ◌≤◌, length, take, drop, ap, sym, ◌∙◌, arith}
use Rattle.std.proofs.lemmas.List.{drop-drop}
use Rattle.packed_text.proofs.PackedLemmas.{part_more, part_of_front}
use Rattle.packed_text.proofs.text.unpack_part.Goals as goal

pub loop-done-preserved : goal.loop-done-preserved
loop-done-preserved c =
    let from = c.args.from in
    let done = c.loop-done.done in
    let few = c.min-few.result in
    let pairs = c.args.pairs.now in
    let part = c.part-part.result.now in
    let low : few ≤ length part = omega (arith, c.min-few.ensures) in
    let is : take few part ≡ take few (drop done (drop from pairs)) =
    part_of_front part (drop (from + done) pairs) few c.part-part.ensures.part low ∙ ap (take few) (sym (drop-drop done from pairs)) in
    record {
      items = part_more c.args.out.now.items c.unpack.new.out.items c.loop-done.out.items (drop from pairs) (take few part) done few c.loop-done.invariant.items c.in_ok-unpack.ensures.ok is;
      few = omega (arith, c.min-few.ensures, c.loop-done-test.true);
    }
