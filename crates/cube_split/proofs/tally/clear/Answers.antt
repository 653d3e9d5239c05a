use Rattle.std.proofs.Common.{arith, ◌≡◌, ◌∙◌, get_or}
use Rattle.std.proofs.lemmas.List.{get_or_default}
use Rattle.cube_split.proofs.TallyLemmas.{cleared_none, cleared_one}
use Rattle.cube_split.proofs.tally.clear.Goals as goal

pub loop-var-init : goal.loop-var-init
loop-var-init c = cleared_none c.args.counts.now c.args.last.now c.args.variables.now c.requires.last

pub loop-var-preserved : goal.loop-var-preserved
loop-var-preserved c =
    let is : c.var-item.result ≡ get_or c.args.variables.now c.loop-var.var-index 0 = c.var-item.is ∙ get_or_default c.args.variables.now c.loop-var.var-index c.var-item.result 0 c.loop-var-test.true in
    let row : c.number-row.result ≡ get_or c.args.variables.now c.loop-var.var-index 0 = c.number-row.ensures.value ∙ is in
    cleared_one c.args.counts.now c.args.last.now c.loop-var.counts c.loop-var.last c.args.variables.now c.loop-var.var-index c.number-row.result row
    (omega (arith, c.requires.within c.loop-var.var-index 0 c.loop-var-test.true)) c.loop-var.invariant
