use Rattle.icnf.proofs.PieceLemmas.{last_tells, last_refused}
use Rattle.icnf.proofs.tree_lines.TreeLines.finish.Goals as goal

pub returns-in-Ok : goal.returns-in-Ok
returns-in-Ok c = λ s is. last_tells c.args.self c.take_line.new.self c.args.last.now s c.end.result is c.in-Ok.ensures.1 c.end.ensures

pub returns-in-Err : goal.returns-in-Err
returns-in-Err c = λ s is. last_refused c.args.self c.args.last.now s c.in-Err.fault (c.in-Err.ensures s is)
