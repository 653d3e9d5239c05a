use Rattle.std.proofs.Common.{◌≡◌, map, take, All}
use Rattle.lrat_text.specs.Grammar.{IsClauseNumber}
use Rattle.renumbered_logs.specs.Renumbered.{behind_all}
use Rattle.renumbered_logs.proofs.renumbering.Renumbering.move_all.Given as goal

abbrev pub invariant-loop-number : goal.invariant-loop-number
invariant-loop-number l = record {
  moved : l.out.items ≡ map (behind_all l.self.numbers.now l.self.all) (take l.number-index l.numbers);
  within : All IsClauseNumber l.out.items;
}
