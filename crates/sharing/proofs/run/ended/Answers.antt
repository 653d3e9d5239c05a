use Rattle.sharing.proofs.WritingLemmas.{closed_turn, closing_behind}
use Rattle.sharing.proofs.run.ended.Goals as goal

pub returns-in-Closed : goal.returns-in-Closed
returns-in-Closed c = λ F query steps lines right. (c.in-Closed.field-0, closing_behind query c.in-Closed.field-0 steps lines (closed_turn F query lines c.args.how c.in-Closed.field-0 c.in-Closed.is right))
