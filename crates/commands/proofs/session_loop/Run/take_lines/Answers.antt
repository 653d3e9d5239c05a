use Rattle.std.proofs.Common.{◌++◌, ◌∙◌, [], refl}
use Rattle.commands.proofs.AnswerLemmas.{left_as, on_err}
use Rattle.commands.proofs.AnsweringLemmas.{left_so}
use Rattle.commands.proofs.EndingLemmas.{ended_by, faulty_by, is_read, is_unread}
use Rattle.commands.proofs.session_loop.Run.take_lines.Goals as goal

pub returns-in_err-take_sent-clause-left : goal.returns-in_err-take_sent-clause-left
returns-in_err-take_sent-clause-left g c = λ all r.
    on_err _ _ (left_as all (g.O.Outputs.has c.take_sent.new.outputs) _ _ c.lines.invariant.asking (c.in_err-take_sent.ensures.left all (c.lines.invariant.goes all r)))

pub returns-then-not-branch-clause-goes : goal.returns-then-not-branch-clause-goes
returns-then-not-branch-clause-goes g c = λ all r.
    is_unread all g.B.Read.remaining (g.O.Outputs.has c.take_sent.new.outputs) (g.O.Outputs.unheard c.take_sent.new.outputs) _ c.take_sent.new.self c.take_sent.new.session c.if-not-branch.true (c.in_ok-take_sent.ensures.goes all (c.lines.invariant.goes all r))

pub returns-in_err-next-clause-left : goal.returns-in_err-next-clause-left
returns-in_err-next-clause-left g c = λ all r.
    let has = g.O.Outputs.has c.take_sent.new.outputs in
    let now = is_read all g.B.Read.remaining has (g.O.Outputs.unheard c.take_sent.new.outputs) _ c.take_sent.new.self c.take_sent.new.session c.if-not-branch.false (c.in_ok-take_sent.ensures.goes all (c.lines.invariant.goes all r)) in
    on_err _ _ (left_as all has _ _ (c.in_ok-take_sent.ensures.asking ∙ c.lines.invariant.asking) (left_so all g.B.Read.remaining has _ c.take_sent.new.self c.take_sent.new.session now))

pub returns-in-Ended-clause-goes : goal.returns-in-Ended-clause-goes
returns-in-Ended-clause-goes g c = λ all r.
    let has = g.O.Outputs.has c.take_sent.new.outputs in
    let now = is_read all g.B.Read.remaining has (g.O.Outputs.unheard c.take_sent.new.outputs) _ c.take_sent.new.self c.take_sent.new.session c.if-not-branch.false (c.in_ok-take_sent.ensures.goes all (c.lines.invariant.goes all r)) in
    ended_by all g.B.Read.remaining has c.in_ok-next.field-0 c.take_sent.new.self _ c.take_sent.new.session now refl refl c.in-Ended.is (c.in_ok-next.ensures.heard c.take_sent.new.self.asking.limits all (now.events ++ []) now.hears)

pub returns-in-Faulty-clause-goes : goal.returns-in-Faulty-clause-goes
returns-in-Faulty-clause-goes g c = λ all r.
    let has = g.O.Outputs.has c.take_sent.new.outputs in
    let now = is_read all g.B.Read.remaining has (g.O.Outputs.unheard c.take_sent.new.outputs) _ c.take_sent.new.self c.take_sent.new.session c.if-not-branch.false (c.in_ok-take_sent.ensures.goes all (c.lines.invariant.goes all r)) in
    faulty_by all g.B.Read.remaining has c.in_ok-next.field-0 c.in-Faulty.fault c.take_sent.new.self _ c.take_sent.new.session now refl refl c.in-Faulty.is (c.in_ok-next.ensures.heard c.take_sent.new.self.asking.limits all (now.events ++ []) now.hears)

pub returns-clause-left : goal.returns-clause-left
returns-clause-left g c = λ all r.
    let has = g.O.Outputs.has c.lines.outputs in
    left_as all has _ _ c.lines.invariant.asking (left_so all g.B.Read.remaining has _ c.lines.self c.lines.session (c.lines.invariant.goes all r))
