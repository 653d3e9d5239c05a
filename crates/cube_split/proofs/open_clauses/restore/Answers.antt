use Rattle.std.proofs.Common.{rules, arith, ◌≡◌, ◌+◌, get_or, set}
use Rattle.cube_split.proofs.OpenLemmas.{place_in, place_still_in, all_in}
use Rattle.cube_split.proofs.open_clauses.restore.Goals as goal
use Rattle.cube_split.proofs.open_clauses.restore.Goals.{then-place, else-place}

pub loop-place-preserved : goal.loop-place-preserved
loop-place-preserved c =
    elim c.if-place.branch [
      | then-place w ↦
          let counts : c.if-place.counts ≡ set c.loop-place.counts w.number.result (get_or c.loop-place.counts w.number.result 0 + 1) = search rules in
          rw counts (place_in c.args.counts.now c.loop-place.counts c.args.places.now c.loop-place.place-index w.number.result c.place-item.result c.loop-place-test.true c.place-item.is (omega arith) c.requires.within c.requires.flagged w.if-place.true c.loop-place.invariant)
      | else-place w ↦
          rw w.counts-is (place_still_in c.args.counts.now c.loop-place.counts c.args.places.now c.loop-place.place-index c.place-item.result c.loop-place-test.true c.place-item.is c.requires.flagged w.if-place.false c.loop-place.invariant)
    ]

pub returns : goal.returns
returns c = (all_in c.args.counts.now c.loop-place.counts c.args.places.now c.loop-place.place-index c.loop-place-test.false c.loop-place.invariant).counted
