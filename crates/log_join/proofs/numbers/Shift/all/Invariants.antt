use Rattle.std.proofs.Common.{◌≡◌, map, take, All}
use Rattle.lrat_text.specs.Grammar.{IsClauseNumber}
use Rattle.proof_join.specs.RenumberedSteps.{behind}
use Rattle.log_join.proofs.numbers.Shift.all.Given as goal

abbrev pub invariant-loop-number : goal.invariant-loop-number
invariant-loop-number l = record {
  moved : l.out.items ≡ map (behind l.fn.self.base l.fn.self.begun) (take l.number-index l.numbers);
  within : All IsClauseNumber l.out.items;
}
