use Rattle.std.proofs.Common.{◌∙◌}
use Rattle.answers.proofs.PieceLemmas.{last_on, line_leads}
use Rattle.answers.proofs.lines.AnswerLines.take.Goals as goal

pub loop-part-preserved : goal.loop-part-preserved
loop-part-preserved c = λ more.
    c.loop-part.invariant more
    ∙ line_leads c.loop-part.self c.take_part.new.self c.loop-part.rest.now c.in-Some.part.now c.in-Some.later.now c.in-Some.ensures c.end_line.new.self c.in_ok-take_part.ensures c.in_ok-end_line.ensures more

pub returns : goal.returns
returns c =
    last_on c.args.self.now c.loop-part.self c.take_part-2.new.self c.args.piece.now c.loop-part.rest.now c.take_part-2.result c.loop-part.invariant c.take_part-2.ensures
