use Rattle.std.proofs.Common.{ℕ}
use Rattle.cube_solve.proofs.ReductionLemmas.{chosen_more}
use Rattle.cube_solve.proofs.lemma_stats.LemmaStats.least_useful.Goals as goal

pub loop-number-preserved : goal.loop-number-preserved
loop-number-preserved c =
    chosen_more (λ (n : ℕ). Unit {0}) c.args.lemmas.now c.loop-number.number-index c.requires c.loop-number-test.true c.loop-number.least.items c.keep_if.new.numbers.items
    c.in_ok-keep_if.ensures c.loop-number.invariant
