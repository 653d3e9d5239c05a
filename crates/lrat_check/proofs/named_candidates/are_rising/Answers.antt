use Rattle.std.proofs.Common.{◌<◌, sym, subst, arith}
use Rattle.dimacs.specs.logic.Rat.{Group}
use Rattle.lrat_check.specs.inner.CandidateOrder.{IsRising}
use Rattle.lrat_check.proofs.Named.{here, item_is}
use Rattle.lrat_check.proofs.named_candidates.are_rising.Goals as goal

pub loop-i-preserved : goal.loop-i-preserved
loop-i-preserved c = λ rise.
    let g : Group = (c.get-candidate.result.0, c.get-candidate.result.1.now) in
    let more : c.loop-i.last < c.get-candidate.result.0 = omega (arith, c.if-candidate-last.false) in
    c.loop-i.invariant (subst (IsRising c.loop-i.last)
    (sym (here c.args.groups.now c.loop-i.i g (omega (arith, c.loop-i-test.true, c.len-i-end.ensures.value)) (item_is c.args.groups.now c.loop-i.i g c.get-candidate.ensures)))
    (more, rise))
