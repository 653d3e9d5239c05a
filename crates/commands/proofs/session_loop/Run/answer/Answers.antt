use Rattle.std.proofs.Common.{refl, sym, ◌∙◌}
use Rattle.commands.proofs.AnswerLemmas.{on_err, printed_is, query_goes, written_some}
use Rattle.commands.proofs.AnsweringLemmas.{left_so}
use Rattle.commands.proofs.session_loop.Run.answer.Goals as goal

pub returns-in-Err-clause-left : goal.returns-in-Err-clause-left
returns-in-Err-clause-left g c = λ all r. left_so all g.B.Read.remaining (g.O.Outputs.has c.args.outputs.now) _ c.args.self.now c.args.session.now r

pub returns-in-Err-put_answer-clause-left : goal.returns-in-Err-put_answer-clause-left
returns-in-Err-put_answer-clause-left g c = λ all r. left_so all g.B.Read.remaining (g.O.Outputs.has c.args.outputs.now) _ c.args.self.now c.args.session.now r

pub returns-in_err-hand_out-clause-left : goal.returns-in_err-hand_out-clause-left
returns-in_err-hand_out-clause-left g c = λ all r.
    on_err _ _
    (written_some all g.B.Read.remaining g.O.Outputs.has c.args.outputs.now c.hand_out.new.outputs _ c.args.self.now c.args.session.now c.in_err-hand_out.ensures.some r)

pub returns-clause-goes : goal.returns-clause-goes
returns-clause-goes g c = λ all r.
    query_goes all g.B.Read.remaining g.O.Outputs.has g.O.Outputs.unheard c.args.outputs.now c.hand_out.new.outputs c.print.new.self c.args.self.now.events.lines.read.literals c.literals.result.now c.in-Ok.answer
    c.print.result c.deref.result.now c.args.self.now _ c.args.session.now c.answer.new.self c.hand_out.new.session r c.literals.ensures refl refl c.status_of-self.ensures c.requires.within c.requires.literals
    c.in-Ok.ensures.stands c.in-Ok.ensures.right c.in-Ok.ensures.unknown c.in-Ok.ensures.grows (printed_is _ _ _ _ _ _ _ c.deref.ensures.value c.in-Ok-put_answer.ensures c.clear.ensures.items c.greatest-vars.ensures.value) c.in_ok-hand_out.ensures.written c.print.ensures.printed c.print.ensures.some c.print.ensures.unheard
