use Rattle.answers.proofs.PieceLemmas.{part_on}
use Rattle.answers.proofs.lines.AnswerLines.take_part.Goals as goal

pub returns : goal.returns
returns c =
    part_on c.self.inside.count c.in_ok-number.number c.self.inside.values c.take.new.values c.self.inside.line c.args.part.now c.take.new.self c.args.self.now c.take.result
    c.self.view_is c.in_ok-number.ensures.number c.take.ensures.open.0 c.requires c.take.ensures.open.1 c.take.ensures.read
