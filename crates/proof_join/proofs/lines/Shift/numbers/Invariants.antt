use Rattle.std.proofs.Common.{◌≡◌, map, take}
use Rattle.proof_join.specs.RenumberedSteps.{behind}
use Rattle.proof_join.proofs.lines.Shift.numbers.Given as goal

abbrev pub invariant-loop-number : goal.invariant-loop-number
invariant-loop-number l = l.out.items ≡ map (behind l.self.base l.self.begun) (take l.number-index l.numbers)
