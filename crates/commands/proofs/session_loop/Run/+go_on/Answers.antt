use Rattle.std.proofs.Common.{◌≤◌, IfOk, OnErr, arith, subst}
use Rattle.dimacs.specs.logic.Limits.{Limits}
use Rattle.commands.specs.declared.session_loop.Asking.{Asking}
use Rattle.commands.specs.declared.session_loop.Ended.TheVariants as ended
use Rattle.commands.specs.inner.SessionLoop.{EndsSo, IsLeftOf}
use Rattle.commands.proofs.AnswerLemmas.{left_as, on_err}
use Rattle.commands.proofs.AnsweringLemmas.{left_so}
use Rattle.commands.proofs.EndingLemmas.{all_answered, end_left, ended_is, ends_as, grown_goes, outgrown_is, unheard_is}
use Rattle.commands.proofs.session_loop.Run.+go_on.Goals as goal

pub returns-in_err-hand_out-in-Ended-clause-left :
    goal.returns-in_err-hand_out-in-Ended-clause-left
returns-in_err-hand_out-in-Ended-clause-left g t c = λ all r.
    let x = c.take_lines.new.self in
    let s = c.take_lines.new.session in
    let at = ended_is all g.B.Read.remaining (g.O.Outputs.has c.take_lines.new.outputs) (g.O.Outputs.unheard c.take_lines.new.outputs) _ c.in-Ended.fault x s c.in-Ended.is (c.in_ok-fault.ensures.goes all r) in
    on_err _ _
    (left_as all (g.O.Outputs.has c.hand_out.new.outputs) _ _ c.in_ok-fault.ensures.asking
    (end_left all g.O.Outputs.has c.take_lines.new.outputs c.hand_out.new.outputs c.in-Ended.fault x s c.in_err-hand_out-in-Ended.ensures.some at))

pub returns-in-Ended-clause-goes : goal.returns-in-Ended-clause-goes
returns-in-Ended-clause-goes g t c = λ all r.
    let x = c.take_lines.new.self in
    let s = c.take_lines.new.session in
    let at = ended_is all g.B.Read.remaining (g.O.Outputs.has c.take_lines.new.outputs) (g.O.Outputs.unheard c.take_lines.new.outputs) _ c.in-Ended.fault x s c.in-Ended.is (c.in_ok-fault.ensures.goes all r) in
    ends_as all (g.O.Outputs.has c.hand_out.new.outputs) (g.O.Outputs.unheard c.hand_out.new.outputs) _ _ x.status (ended.Whole c.in-Ended.fault) c.in_ok-fault.ensures.asking
    (all_answered all g.O.Outputs.has c.take_lines.new.outputs c.hand_out.new.outputs c.in-Ended.fault x (g.O.Outputs.unheard c.hand_out.new.outputs) s c.hand_out.new.session c.in_ok-hand_out-in-Ended.ensures.written at)

pub returns-in-Unheard-clause-goes : goal.returns-in-Unheard-clause-goes
returns-in-Unheard-clause-goes g t c = λ all r.
    let has = g.O.Outputs.has c.take_lines.new.outputs in
    let now = unheard_is all g.B.Read.remaining has (g.O.Outputs.unheard c.take_lines.new.outputs) _ c.take_lines.new.self c.take_lines.new.session c.in-Unheard.is (c.in_ok-fault.ensures.goes all r) in
    (now.0, left_as all has _ _ c.in_ok-fault.ensures.asking now.1)

pub returns-in-Ok-clause-goes : goal.returns-in-Ok-clause-goes
returns-in-Ok-clause-goes g t c = λ all r.
    let has = g.O.Outputs.has c.take_lines.new.outputs in
    let x = c.take_lines.new.self in
    let waits = outgrown_is all g.B.Read.remaining has (g.O.Outputs.unheard c.take_lines.new.outputs) _ c.in-Outgrown.sent x c.take_lines.new.session c.in-Outgrown.is (c.in_ok-fault.ensures.goes all r) in
    let less : c.grown_to-more.result ≤ x.asking.limits.vars
    = subst (λ (M : Limits). c.grown_to-more.result ≤ M.vars) waits.hears.heard_so.limits (omega (arith, c.grown_to-more.ensures.limit, c.most-limit.ensures.value)) in
    let now = grown_goes all g.B.Read.remaining has _ x c.take_lines.new.session c.in-Ok.grown (λ E told text. c.in-Ok.ensures.stands x.asking.limits E told text less) waits in
    let Q : Asking → Type 0 = λ o. IfOk c.go_on.result (EndsSo all (g.O.Outputs.has c.go_on.new.outputs) (g.O.Outputs.unheard c.go_on.new.outputs) o c.go_on.new.self.status) in
    subst Q c.in_ok-fault.ensures.asking (c.go_on.ensures.goes all now)

pub returns-in-Ok-clause-left : goal.returns-in-Ok-clause-left
returns-in-Ok-clause-left g t c = λ all r.
    let has = g.O.Outputs.has c.take_lines.new.outputs in
    let x = c.take_lines.new.self in
    let waits = outgrown_is all g.B.Read.remaining has (g.O.Outputs.unheard c.take_lines.new.outputs) _ c.in-Outgrown.sent x c.take_lines.new.session c.in-Outgrown.is (c.in_ok-fault.ensures.goes all r) in
    let less : c.grown_to-more.result ≤ x.asking.limits.vars
    = subst (λ (M : Limits). c.grown_to-more.result ≤ M.vars) waits.hears.heard_so.limits (omega (arith, c.grown_to-more.ensures.limit, c.most-limit.ensures.value)) in
    let now = grown_goes all g.B.Read.remaining has _ x c.take_lines.new.session c.in-Ok.grown (λ E told text. c.in-Ok.ensures.stands x.asking.limits E told text less) waits in
    let Q : Asking → Type 0 = λ o. OnErr c.go_on.result (IsLeftOf all (g.O.Outputs.has c.go_on.new.outputs) o) in
    subst Q c.in_ok-fault.ensures.asking (c.go_on.ensures.left all now)

pub returns-clause-left : goal.returns-clause-left
returns-clause-left g t c = λ all r.
    let has = g.O.Outputs.has c.take_lines.new.outputs in
    let x = c.take_lines.new.self in
    let waits = outgrown_is all g.B.Read.remaining has (g.O.Outputs.unheard c.take_lines.new.outputs) _ c.in-Outgrown.sent x c.take_lines.new.session c.in-Outgrown.is (c.in_ok-fault.ensures.goes all r) in
    left_as all has _ _ c.in_ok-fault.ensures.asking (left_so all g.B.Read.remaining has _ x c.take_lines.new.session waits)
