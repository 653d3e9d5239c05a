use Rattle.std.proofs.Common.{◌<◌, length, ap, arith}
use Rattle.dimacs.proofs.BaseLemmas.{count_take}
use Rattle.elimination.proofs.IndexLemmas.{count_more}
use Rattle.elimination.proofs.clauses.count_literals.Goals as goal

pub overflow_add-count : goal.overflow_add-count
overflow_add-count c =
    let cs = c.args.all.now.clauses in
    let h : c.loop-i.i < length cs = omega arith in
    omega (arith, c.loop-i.invariant, count_take cs c.loop-i.i h, ap length c.clause.ensures.clause, c.clause.ensures.valid.literals)

pub loop-i-preserved : goal.loop-i-preserved
loop-i-preserved c =
    let cs = c.args.all.now.clauses in
    let h : c.loop-i.i < length cs = omega arith in
    omega (arith, c.loop-i.invariant, count_more cs c.loop-i.i h, ap length c.clause.ensures.clause)
