use Rattle.std.proofs.Common.{◌≤◌, arith, refl, subst, sym}
use Rattle.dimacs.specs.logic.Limits.{Limits}
use Rattle.commands.proofs.AnswerLemmas.{on_err}
use Rattle.commands.proofs.EndingLemmas.{ends_so, left_at_start, left_of_end, running_at_start}
use Rattle.commands.proofs.session_loop.answer_session.Goals as goal

pub go_on-requires-clause-limit : goal.go_on-requires-clause-limit
go_on-requires-clause-limit g c =
    subst (λ (M : Limits). c.first_of-first.result ≤ M.vars) (sym c.of-events.ensures.limits) (omega (arith, c.first_of-first.ensures, c.vars.ensures.value))

pub returns-in-Err-clause-left : goal.returns-in-Err-clause-left
returns-in-Err-clause-left g c = λ out. left_at_start (g.B.Read.remaining c.args.source) (g.O.Outputs.has c.args.outputs.now) c.args.asking out

pub returns-in_err-ended-clause-left : goal.returns-in_err-ended-clause-left
returns-in_err-ended-clause-left g c = λ out.
    let all = g.B.Read.remaining c.args.source in
    on_err _ _
    (c.in_err-ended.ensures.left all
    (running_at_start all g.B.Read.remaining (g.O.Outputs.has c.args.outputs.now) (record { asking = c.args.asking; events = c.of-events.result; status = 0; text = c.new.result }) c.in-Ok.session c.of-events.ensures.hears
    (c.in-Ok.ensures.stands c.args.asking.limits c.vars.ensures.valid (omega (arith, c.first_of-first.ensures, c.vars.ensures.value))) refl out))

pub returns-clause-session : goal.returns-clause-session
returns-clause-session g c = λ out.
    let all = g.B.Read.remaining c.args.source in
    ends_so all (g.O.Outputs.has c.go_on.new.outputs) (g.O.Outputs.unheard c.go_on.new.outputs) c.args.asking c.go_on.new.self.status c.in_ok-ended.ended c.report_of.result
    (c.in_ok-ended.ensures.goes all
    (running_at_start all g.B.Read.remaining (g.O.Outputs.has c.args.outputs.now) (record { asking = c.args.asking; events = c.of-events.result; status = 0; text = c.new.result }) c.in-Ok.session c.of-events.ensures.hears
    (c.in-Ok.ensures.stands c.args.asking.limits c.vars.ensures.valid (omega (arith, c.first_of-first.ensures, c.vars.ensures.value))) refl out))
    c.report_of.ensures.whole c.report_of.ensures.unheard

pub returns-clause-left : goal.returns-clause-left
returns-clause-left g c = λ out.
    let all = g.B.Read.remaining c.args.source in
    on_err _ _
    (left_of_end all (g.O.Outputs.has c.go_on.new.outputs) (g.O.Outputs.unheard c.go_on.new.outputs) c.args.asking c.go_on.new.self.status c.in_ok-ended.ended
    (c.in_ok-ended.ensures.goes all
    (running_at_start all g.B.Read.remaining (g.O.Outputs.has c.args.outputs.now) (record { asking = c.args.asking; events = c.of-events.result; status = 0; text = c.new.result }) c.in-Ok.session c.of-events.ensures.hears
    (c.in-Ok.ensures.stands c.args.asking.limits c.vars.ensures.valid (omega (arith, c.first_of-first.ensures, c.vars.ensures.value))) refl out)))
