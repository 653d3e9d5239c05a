use Rattle.lrat_text.proofs.LineSinkLemmas.{hands_line, hands_on}
use Rattle.lrat_text.proofs.line_splitter.take_lines.Goals as goal

pub loop-line-preserved : goal.loop-line-preserved
loop-line-preserved g c =
    let takes = g.T.TakesLines.takes in
    let s = c.loop-line.taker in
    let new = c.take_line.new.self in
    let rest = c.loop-line.rest.now in
    let later = c.in-Some.later.now in
    record {
      may = c.in_ok-take_line.ensures.0;
      hands = hands_on takes c.args.taker.now c.args.text.now s rest new later c.loop-line.invariant.hands (hands_line takes s rest c.in-Some.line.now later new c.in-Some.ensures c.in_ok-take_line.ensures.1);
    }
