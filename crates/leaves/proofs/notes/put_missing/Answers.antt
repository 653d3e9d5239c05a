use Rattle.std.proofs.Common.{◌++◌, ◌∙◌, List, ℕ, ap, flat_map, get_or, refl}
use Rattle.std.proofs.lemmas.List.{take_all}
use Rattle.dimacs.proofs.WritingLemmas.{item_more}
use Rattle.leaves.specs.Notes.{missing_line}
use Rattle.leaves.proofs.notes.put_missing.Goals as goal

pub loop-place-preserved : goal.loop-place-preserved
loop-place-preserved c = record {
  out = λ all.
      c.in_ok-put_leaf.ensures (all c.loop-place.place-index 0 c.loop-place-test.true)
      ∙ item_more missing_line c.args.out.now.items c.loop-place.out.items c.args.places.now c.loop-place.place-index (get_or c.args.places.now c.loop-place.place-index 0) 0 c.loop-place-test.true refl
      (c.loop-place.invariant.out all);
}

pub returns : goal.returns
returns c = λ all.
    c.loop-place.invariant.out all ∙ ap (λ (xs : List ℕ). c.args.out.now.items ++ flat_map missing_line xs) (take_all c.loop-place.place-index c.args.places.now c.loop-place-test.false)
