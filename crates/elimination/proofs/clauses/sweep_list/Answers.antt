use Rattle.std.proofs.Common.{◌<◌, length, arith}
use Rattle.std.proofs.lemmas.List.Filters.{FiltersInPlace-more_set, FiltersInPlace-more_no}
use Rattle.elimination.proofs.IndexLemmas.{at_rest}
use Rattle.elimination.proofs.clauses.sweep_list.Goals as goal
use Rattle.elimination.proofs.clauses.sweep_list.Goals.{then-active-clause, else-active-clause}

pub bounds-active-clause : goal.bounds-active-clause
bounds-active-clause c =
    let x = c.index-clause.result.now in
    let xs = c.args.list.now.items in
    let b : c.loop-i.i < length xs = omega (arith, c.loop-i.invariant.long) in
    omega (arith, c.index-clause.ensures, at_rest xs c.loop-i.list.items c.loop-i.i x c.loop-i.invariant.rest, c.requires c.loop-i.i x b)

pub loop-i-preserved : goal.loop-i-preserved
loop-i-preserved c =
    let b : c.loop-i.i < length c.loop-i.list.items = omega arith in
    elim c.if-active-clause.branch [
      | then-active-clause w ↦ rw (w.list-is, w.kept-is) (FiltersInPlace-more_set c.loop-i.invariant b w.if-active-clause.true c.index-clause.ensures)
      | else-active-clause w ↦ rw (w.list-is, w.kept-is) (FiltersInPlace-more_no c.loop-i.invariant b w.if-active-clause.false c.index-clause.ensures)
    ]
