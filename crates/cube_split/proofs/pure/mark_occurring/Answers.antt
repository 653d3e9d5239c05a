use Rattle.std.proofs.Common.{arith, ◌<◌, length, take}
use Rattle.std.proofs.lemmas.List.{take_all}
use Rattle.dimacs.specs.logic.Base.{occurs}
use Rattle.cube_split.proofs.PureLemmas.{occurs_more}
use Rattle.cube_split.proofs.pure.mark_occurring.Goals as goal

pub loop-i-preserved : goal.loop-i-preserved
loop-i-preserved c =
    let below : c.loop-i.i < length c.args.formula.now.clauses = omega arith in
    occurs_more c.mark.new.marks c.args.formula.now.clauses c.loop-i.i c.clause.result.now below c.clause.ensures.clause (c.mark.ensures (occurs (take c.loop-i.i c.args.formula.now.clauses)) c.loop-i.invariant)

pub returns : goal.returns
returns c =
    let all = take_all c.loop-i.i c.args.formula.now.clauses (omega arith) in
    rw all at c.loop-i.invariant
