use Rattle.std.proofs.Common.{◌≡◌, ◌++◌, List, ℕ, length}
use Rattle.lrat_check.specs.Stream.{HasTaken}
use Rattle.lrat_trim.proofs.recheck.check_packed.Given as goal

-- what is no longer left has been taken
abbrev pub invariant-loop-stream : goal.invariant-loop-stream
invariant-loop-stream l = (done : List ℕ) × (done ++ l.blocks ≡ l.text) × HasTaken l.fn.formula l.stream done

abbrev pub decreases-loop-stream : goal.decreases-loop-stream
decreases-loop-stream l = length l.blocks
