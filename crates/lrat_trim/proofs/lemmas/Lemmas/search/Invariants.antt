use Rattle.std.proofs.Common.{◌≤◌, ◌-◌, length}
use Rattle.lrat_trim.proofs.lemmas.Lemmas.search.Given as goal

abbrev pub invariant-loop-low : goal.invariant-loop-low
invariant-loop-low l = l.high ≤ length l.self.list.items

abbrev pub decreases-loop-low : goal.decreases-loop-low
decreases-loop-low l = l.high - l.low
