use Rattle.leaves.proofs.SearchSessionLemmas.{is_answered}
use Rattle.leaves.proofs.search_session.SearchSession.ask.Goals as goal

pub returns-clause-answered : goal.returns-clause-answered
returns-clause-answered g c = λ F closing steps h.
    let a = c.in_ok-answer.ensures in
    let t = c.in_ok-take_lines.ensures in
    is_answered F closing steps c.args.self.now c.take_lines.new.self c.ask.new.self c.args.cube.now c.args.limit c.in_ok-answer.answer c.requires.ready.few a.tells a.given a.vars a.answer a.unknown a.most a.failed t.vars t.last t.given t.known t.taken t.log h
