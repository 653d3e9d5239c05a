use Rattle.std.proofs.Common.{◌<◌, length, get_or, arith}
use Rattle.std.proofs.lemmas.List.{take_more}
use Rattle.elimination.proofs.IndexLemmas.{retired_more}
use Rattle.elimination.proofs.clauses.retire.Goals as goal

pub loop-i-preserved : goal.loop-i-preserved
loop-i-preserved c =
    let list = c.args.list.now in
    let h : c.loop-i.i-index < length list = omega arith in
    let b : get_or list c.loop-i.i-index 0 < length c.loop-i.active.items = omega (arith, c.requires c.loop-i.i-index 0 h, c.loop-i.invariant.truths) in
    rw (take_more list c.loop-i.i-index 0 h) (retired_more _ _ _ _ b c.loop-i.invariant)
