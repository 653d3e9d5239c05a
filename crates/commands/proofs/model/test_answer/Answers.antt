use Rattle.std.proofs.Common.{inl, inr}
use Rattle.std.proofs.lemmas.Result.{IfOk-weaker}
use Rattle.commands.specs.Model.{TellsAnswer, cannot_read_answer_text}
use Rattle.commands.proofs.model.test_answer.Goals as goal
use Rattle.leaves.specs.Leaf.{Prints}

pub returns-in-Ok-clause-tells : goal.returns-in-Ok-clause-tells
returns-in-Ok-clause-tells g c = λ F h. inr (c.in-Ok.ensures.tests F h)

pub returns-in-Err-clause-tells : goal.returns-in-Err-clause-tells
returns-in-Err-clause-tells g c = λ F h.
    IfOk-weaker c.unread.result (Prints 1 cannot_read_answer_text) (TellsAnswer F (g.D.Disk.holds c.args.disk.now c.args.answer.now)) (λ r prints. inl prints) c.unread.ensures.text
