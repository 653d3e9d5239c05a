use Rattle.std.proofs.Common.{rules, arith, ◌≡◌, ◌-◌, get_or, set}
use Rattle.cube_split.proofs.OpenLemmas.{place_fits, place_out, place_still_out, all_out}
use Rattle.cube_split.proofs.open_clauses.withdraw.Goals as goal
use Rattle.cube_split.proofs.open_clauses.withdraw.Goals.{then-place, else-place}

pub overflow_sub-counts : goal.overflow_sub-counts
overflow_sub-counts c = place_fits c.args.counts.now c.loop-place.counts c.args.places.now c.loop-place.place-index c.number.result c.place-item.result c.loop-place-test.true c.place-item.is (omega arith) c.requires.within c.requires.flagged c.requires.counted c.if-place.true c.loop-place.invariant

pub loop-place-preserved : goal.loop-place-preserved
loop-place-preserved c =
    elim c.if-place.branch [
      | then-place w ↦
          let counts : c.if-place.counts ≡ set c.loop-place.counts w.number.result (get_or c.loop-place.counts w.number.result 0 - 1) = search rules in
          rw counts (place_out c.args.counts.now c.loop-place.counts c.args.places.now c.loop-place.place-index w.number.result c.place-item.result c.loop-place-test.true c.place-item.is (omega arith) c.requires.within c.requires.flagged c.requires.counted w.if-place.true c.loop-place.invariant)
      | else-place w ↦
          rw w.counts-is (place_still_out c.args.counts.now c.loop-place.counts c.args.places.now c.loop-place.place-index c.place-item.result c.loop-place-test.true c.place-item.is c.requires.flagged w.if-place.false c.loop-place.invariant)
    ]

pub returns : goal.returns
returns c = (all_out c.args.counts.now c.loop-place.counts c.args.places.now c.loop-place.place-index c.loop-place-test.false c.loop-place.invariant).counted
