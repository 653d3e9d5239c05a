use Rattle.commands.proofs.AnswerLemmas.{clause_goes}
use Rattle.commands.proofs.AnsweringLemmas.{left_so}
use Rattle.commands.proofs.session_loop.Run.take_sent.Goals as goal

pub returns-in-Ok-clause-goes : goal.returns-in-Ok-clause-goes
returns-in-Ok-clause-goes g c = λ all r.
    clause_goes all g.B.Read.remaining (g.O.Outputs.has c.args.outputs.now) c.args.sent _ c.literals.result.now c.args.self.now c.args.session.now c.give.new.self c.in-Clause.is c.literals.ensures c.in-Ok.ensures.stands r

pub returns-in-Err-clause-left : goal.returns-in-Err-clause-left
returns-in-Err-clause-left g c = λ all r. left_so all g.B.Read.remaining (g.O.Outputs.has c.args.outputs.now) _ c.args.self.now c.args.session.now r
