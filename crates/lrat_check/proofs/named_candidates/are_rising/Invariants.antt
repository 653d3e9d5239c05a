use Rattle.std.proofs.Common.{drop}
use Rattle.lrat_check.specs.inner.CandidateOrder.{IsRising}
use Rattle.lrat_check.proofs.named_candidates.are_rising.Given as goal

abbrev pub invariant-loop-i : goal.invariant-loop-i
invariant-loop-i l = IsRising l.last (drop l.i l.groups) → IsRising 0 l.groups
