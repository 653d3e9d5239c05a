use Rattle.std.proofs.Common.{ℕ}
use Rattle.cube_solve.proofs.ReductionLemmas.{AreChosen}
use Rattle.cube_solve.proofs.lemma_stats.LemmaStats.least_useful.Given as goal

abbrev pub invariant-loop-number : goal.invariant-loop-number
invariant-loop-number l = AreChosen (λ (n : ℕ). Unit {0}) l.lemmas l.number-index l.least.items
