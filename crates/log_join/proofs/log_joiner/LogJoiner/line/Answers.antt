use Rattle.log_join.proofs.ResultLemmas.{ok_both}
use Rattle.log_join.proofs.WrittenLemmas.{line_within}
use Rattle.log_join.proofs.log_joiner.LogJoiner.line.Goals as goal

pub returns-clause-line : goal.returns-clause-line
returns-clause-line c = ok_both c.put.result _ _ _
    (λ text moves. (_, text, λ F cubes logs log written way next limits. line_within F cubes logs log written c.args.self.now c.put.new.self _ way next limits moves))
    c.put.ensures.text c.put.ensures.after
