use Rattle.renumbered_logs.proofs.RenumberingLemmas.{number_over}
use Rattle.renumbered_logs.proofs.renumbering.Renumbering.move_all.Goals as goal

pub returns-in_default : goal.returns-in_default
returns-in_default c = number_over c.args.self.numbers.now c.args.self.all c.args.numbers.now c.loop-number.number-index c.loop-number-test.true c.in_default.ensures
